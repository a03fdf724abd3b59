-- A frame of a send stands on the stack of its sender or its receiver, so all frames that name it are counted there.
use Rattle.std.proofs.Common.{◌≡◌, ◌≢◌, ℕ, zero, suc, ◌+◌, ◌-◌, ◌<◌, ◌≤◌, Bool, true, false, cond, eqb, List, [], ◌∷◌, length, get_or, Some, refl, ap, ◌∙◌, sym, subst, inl, inr, arith}
use Rattle.std.specs.Prelude.{◌||◌, ◌⊎◌, nat_lt}
use Rattle.std.specs.List.{AllByRecursion, list_any}
use Rattle.std.proofs.lemmas.Bool.{false≢true, eqb-true, ne_eqb}
use Rattle.std.proofs.lemmas.Bool.Decides.{eqb_tells, nat_tests}
use Rattle.win_num.specs.declared.send.Frame.{Frame}
use Rattle.win_num.specs.declared.send.Frame.TheVariants.{Entered, Inside, Called, CallbackRun, Await}
use Rattle.user_model.specs.declared.entry.Setup.{Setup}
use Rattle.user_model.specs.Past.{Past}
use Rattle.user_model.specs.Threads.{is_thread}
use Rattle.user_model.specs.Stacks.{stack}
use Rattle.user_model.specs.Sends.{SentMsg, is_stacked, names_send, send}
use Rattle.user_model.proofs.SendStanding.{FrameStands, SendStands, Standing}
use Rattle.send_frames.specs.Book.{Book, count_in, count_on, names, stack_of}
use Rattle.send_state.specs.Standing.{IsOurs}

pub eqb_turned : (a b : ℕ) → eqb a b ≡ eqb b a
eqb_turned a b = elim (eqb_tells a b) [
  | inl x ↦ ap (λ n. eqb a n) (sym x.1) ∙ ap (λ n. eqb n a) x.1
  | inr x ↦ x.0 ∙ sym (ne_eqb b a (λ e. x.1 (sym e)))
]

-- both crates mean the same by a frame that names a send
pub names-same : (s : ℕ) (f : Frame) → names s f ≡ names_send f s
names-same s (Entered q) = eqb_turned s q.0
names-same s (Inside q) = eqb_turned s q.0
names-same s (Await q) = eqb_turned s q.0
names-same s Called = refl
names-same s CallbackRun = refl

-- a thread's number is one of the setup's
pub is_ours : (setup : Setup) (t : ℕ) → is_thread setup t ≡ true → IsOurs setup t
is_ours setup t h = grind (arith, nat_tests)

-- a stack has a frame of the send, or none
any_counts : (s : ℕ) (fs : List Frame) → list_any (λ f. names_send f s) fs ≡ true → 1 ≤ count_in (names s) fs
any_counts s [] h = absurd (false≢true h)
any_counts s (f ∷ fs) h = go (any_counts s fs) (names_send f s) refl h where
  go : (list_any (λ g. names_send g s) fs ≡ true → 1 ≤ count_in (names s) fs) → (b : Bool) → names_send f s ≡ b → (b || list_any (λ g. names_send g s) fs) ≡ true → 1 ≤ count_in (names s) (f ∷ fs)
  go more true e k = subst (λ b. 1 ≤ cond b 1 0 + count_in (names s) fs) (sym (names-same s f ∙ e)) (omega arith)
  go more false e k = let rest = more k in omega (arith, rest)

none_counts : (s : ℕ) (fs : List Frame) → list_any (λ f. names_send f s) fs ≡ false → count_in (names s) fs ≡ 0
none_counts s [] h = refl
none_counts s (f ∷ fs) h = go (none_counts s fs) (names_send f s) refl h where
  go : (list_any (λ g. names_send g s) fs ≡ false → count_in (names s) fs ≡ 0) → (b : Bool) → names_send f s ≡ b → (b || list_any (λ g. names_send g s) fs) ≡ false → count_in (names s) (f ∷ fs) ≡ 0
  go more true e k = absurd (false≢true (sym k))
  go more false e k = let rest = more k in let here = ap (λ b. cond b 1 0 + count_in (names s) fs) (names-same s f ∙ e) in here ∙ omega (arith, rest)

one_of_all : (test : Frame → Bool) (stacks : List (List Frame)) (i : ℕ) → count_in test (get_or stacks i []) ≤ count_on test stacks
one_of_all test [] i = omega arith
one_of_all test (fs ∷ stacks) zero = omega arith
one_of_all test (fs ∷ stacks) (suc i) = let rest = one_of_all test stacks i in omega (arith, rest)

none_of_all : (test : Frame → Bool) (stacks : List (List Frame)) → ((i : ℕ) → i < length stacks → count_in test (get_or stacks i []) ≡ 0) → count_on test stacks ≡ 0
none_of_all test [] h = refl
none_of_all test (fs ∷ stacks) h =
    let here : count_in test fs ≡ 0 = h 0 (omega arith) in
    let rest = none_of_all test stacks (λ i lt. h (suc i) (omega (arith, lt))) in
    omega (arith, here, rest)

-- a frame that names a send stands on the stack of its sender or receiver
frame_at : (past : Past) (t s : ℕ) (x : SentMsg) (f : Frame) → send past s ≡ Some x → FrameStands past t f → names_send f s ≡ true → (x.from ≡ t) ⊎ (x.to ≡ t)
frame_at past t s x (Entered q) found stands named =
    let same : q.0 ≡ s = eqb-true q.0 s named in
    let is : stands.of ≡ x = cc (sym stands.found ∙ ap (send past) same ∙ found) in
    inr (ap (λ y. y.to) (sym is) ∙ stands.to)
frame_at past t s x (Inside q) found stands named =
    let same : q.0 ≡ s = eqb-true q.0 s named in
    let is : stands.of ≡ x = cc (sym stands.found ∙ ap (send past) same ∙ found) in
    inr (ap (λ y. y.to) (sym is) ∙ stands.to)
frame_at past t s x (Await q) found stands named =
    let same : q.0 ≡ s = eqb-true q.0 s named in
    let is : stands.of ≡ x = cc (sym stands.found ∙ ap (send past) same ∙ found) in
    inl (ap (λ y. y.from) (sym is) ∙ stands.from)
frame_at past t s x Called found stands named = absurd (false≢true named)
frame_at past t s x CallbackRun found stands named = absurd (false≢true named)

-- no frame on the stack of another thread names it
elsewhere : (past : Past) (t s : ℕ) (x : SentMsg) → send past s ≡ Some x → x.from ≢ t → x.to ≢ t → (fs : List Frame) → AllByRecursion (FrameStands past t) fs → list_any (λ f. names_send f s) fs ≡ false
elsewhere past t s x found nf nt [] all = refl
elsewhere past t s x found nf nt (f ∷ fs) all = go (elsewhere past t s x found nf nt fs all.1) (names_send f s) refl where
  go : list_any (λ g. names_send g s) fs ≡ false → (b : Bool) → names_send f s ≡ b → (names_send f s || list_any (λ g. names_send g s) fs) ≡ false
  go rest true e = absurd (elim (frame_at past t s x f found all.0 e) [ inl h ↦ nf h | inr h ↦ nt h ])
  go rest false e = ap (λ b. b || list_any (λ g. names_send g s) fs) e ∙ rest

some_above : (n : ℕ) → 1 ≤ n → nat_lt 0 n ≡ true
some_above n h = grind (arith, nat_tests)

none_above : (n : ℕ) → n ≡ 0 → nat_lt 0 n ≡ false
none_above n h = ap (nat_lt 0) h

-- a send is stacked exactly where some frame of all stacks names it
pub stacked-counted : (setup : Setup) (past : Past) (b : Book) (s : ℕ) (x : SentMsg) → Standing setup past → length b.stacks ≡ setup.threads → ((t : ℕ) → IsOurs setup t → stack_of b t ≡ stack past t) → send past s ≡ Some x → is_stacked past x ≡ nat_lt 0 (count_on (names s) b.stacks)
stacked-counted setup past b s x standing as_many stacks found = ap (λ n. on x.from n || on x.to n) number ∙ go (on x.from s) refl (on x.to s) refl where
  sent : SendStands setup past s x
  sent = standing.sent s x found

  number : x.number ≡ s
  number = sent.is_number

  on : ℕ → ℕ → Bool
  on t n = list_any (λ f. names_send f n) (stack past t)

  here : (t : ℕ) → IsOurs setup t → on t s ≡ true → nat_lt 0 (count_on (names s) b.stacks) ≡ true
  here t ours e =
      let counted : 1 ≤ count_in (names s) (stack_of b t) = any_counts s (stack_of b t) (ap (list_any (λ f. names_send f s)) (stacks t ours) ∙ e) in
      some_above (count_on (names s) b.stacks) (omega (arith, counted, one_of_all (names s) b.stacks (t - 1)))

  nowhere : on x.from s ≡ false → on x.to s ≡ false → (i : ℕ) → i < length b.stacks → count_in (names s) (get_or b.stacks i []) ≡ 0
  nowhere f t i lt = none_counts s (get_or b.stacks i []) (ap (λ j. list_any (λ f. names_send f s) (get_or b.stacks j [])) back ∙ ap (list_any (λ f. names_send f s)) (stacks (suc i) ours) ∙ none) where
    ours : IsOurs setup (suc i)
    ours = (omega arith, omega (arith, lt, as_many))

    back : i ≡ suc i - 1
    back = omega arith

    none : on (suc i) s ≡ false
    none = elim (eqb_tells x.from (suc i)) [
      | inl p ↦ ap (λ t. on t s) (sym p.1) ∙ f
      | inr p ↦ elim (eqb_tells x.to (suc i)) [
        | inl q ↦ ap (λ t. on t s) (sym q.1) ∙ t
        | inr q ↦ elsewhere past (suc i) s x found p.1 q.1 (stack past (suc i)) (standing.frames (suc i))
      ]
    ]

  go : (f : Bool) → on x.from s ≡ f → (t : Bool) → on x.to s ≡ t → (on x.from s || on x.to s) ≡ nat_lt 0 (count_on (names s) b.stacks)
  go true f t e = ap (λ b. b || on x.to s) f ∙ sym (here x.from (is_ours setup x.from sent.from_thread) f)
  go false f true e = ap (λ b. b || on x.to s) f ∙ e ∙ sym (here x.to (is_ours setup x.to sent.to_thread) e)
  go false f false e = ap (λ b. b || on x.to s) f ∙ e ∙ sym (none_above (count_on (names s) b.stacks) (none_of_all (names s) b.stacks (nowhere f e)))
