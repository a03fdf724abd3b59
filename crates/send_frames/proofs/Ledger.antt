-- The parts of the sends agree after each call, and show what the call is to do.
use Rattle.std.specs.Prelude.{T}
use Rattle.std.proofs.Common.{◌≡◌, ◌≢◌, ℕ, ◌+◌, ◌-◌, ◌<◌, ◌≤◌, ◌^◌, Bool, true, false, cond, ◌||◌, List, [], ◌∷◌, length, get_or, set, drop, replicate, Option, Some, None, refl, sym, ap, subst, ◌∙◌, arith}
use Rattle.win_num.specs.declared.code.Code.TheVariants.{Win, Full}
use Rattle.std.specs.Prelude.{nat_lt, nat_le, ◌&&◌, is_none, is_some, IsSome, IfSome, ◌==◌}
use Rattle.std.specs.Ordering.{nat_cmp, eq_by_cmp}
use Rattle.std.specs.Cmp.{nat_cmp_total, eq_by_cmp_equiv}
use Rattle.std.specs.Option.{option_map, option_and_then}
use Rattle.std.specs.List.{slice_get}
use Rattle.std.specs.FinMap as map
use Rattle.std.specs.FinMap.{get-insert, get-remove, get-empty, len-insert, len-remove, len-empty}
use Rattle.std.proofs.lemmas.Bool.{ne_eqb}
use borrow.Author.Tests.{ltb-false, lt-ltb, leb-false}
use Rattle.std.proofs.lemmas.List.{length-set, length-replicate, set-get_or}
use Rattle.std.proofs.lemmas.Map.Lookups.{exact_unsigned}
use Rattle.std.proofs.lemmas.Map.Views.{tells_apart}
use Rattle.std.proofs.Math.Dec.{eqb_refl}
use Rattle.win_num.specs.declared.send.SendId.{SendId}
use Rattle.win_num.specs.declared.send.Cause.{Cause}
use Rattle.win_num.specs.declared.send.Frame.{Frame}
use Rattle.win_num.specs.declared.send.Frame.TheVariants.{Inside, Await}
use Rattle.send_frames.specs.declared.row.SendRow.{SendRow}
use Rattle.send_frames.specs.declared.table.Item.{Item}
use Rattle.send_frames.specs.Book.{Book, IsSound, IsRightSend, KnownSend, answered_as, answered_by, begun_by, count_in, count_on, forgotten, forgotten_as, no_sends, frame_at_begin, is_inside, is_open, is_send, is_waiting, named_by, names, is_too_deep, popped, popped_from, pushes_at_begin, refusal_at_begin, stack_of, settled, settled_as, with_send, with_top}
use Rattle.send_frames.specs.Items.{Agrees, IsRightItem, Items, changed, counted_down, counted_down_as, counted_up, counted_up_as, is_kept, is_unanswered, known_in, known_of, new_item, with_answer, with_answer_as, without_debt, without_debt_as}
use Rattle.send_frames.proofs.Counting.{count_on-set, count_on-bound, count_on-empty, depth-set, depth-empty}
use Rattle.send_frames.proofs.Shown.{get-known_in, insert_same, kept-wanted, known_in-changed, known_in-empty, known_in-insert, len-known_in}

-- what parts show
abbrev pub book_of : ℕ → List (List Frame) → Items → Book
book_of begun stacks m = record { begun = begun; stacks = stacks; known = known_in m }

-- parts that agree show a sound book
pub sound : (begun : ℕ) (stacks : List (List Frame)) (m : Items) → Agrees begun stacks m → IsSound (book_of begun stacks m)
sound begun stacks m a = record {
  threads = a.threads;
  depth = λ t. a.depth (t - 1);
  sends = λ s. subst (IsRightSend (book_of begun stacks m) s) (sym (get-known_in m s)) (right s (map.get m s) (a.items s));
  few = subst (λ n. n ≤ 1024) (sym (len-known_in m)) a.few;
} where
  right : (s : ℕ) (o : Option Item) → IsRightItem begun stacks s o → IsRightSend (book_of begun stacks m) s (option_map known_of o)
  right s None h = h
  right s (Some i) h = (h.0, h.1, sym (kept-wanted stacks s i h.2) ∙ h.3)

-- the key of a change, or another
by_key : (P : Option Item → Type 0) (q s : ℕ) (o rest : Option Item) → (q ≡ s → P o) → (q ≢ s → P rest) → P (cond (eq_by_cmp nat_cmp q s) o rest)
by_key P q s o rest here there = go (eq_by_cmp nat_cmp q s) refl where
  go : (b : Bool) → eq_by_cmp nat_cmp q s ≡ b → P (cond b o rest)
  go true h = here (tells_apart exact_unsigned q s h)
  go false h = there (λ e. subst T (sym ((eq_by_cmp_equiv nat_cmp_total).refl q) ∙ ap (eq_by_cmp nat_cmp q) e ∙ h) tt)

last_false : (a b c : Bool) → (a || b || c) ≡ false → c ≡ false
last_false true b c h = absurd (subst T h tt)
last_false false true c h = absurd (subst T h tt)
last_false false false c h = h

zero_of : (n : ℕ) → nat_lt 0 n ≡ false → n ≡ 0
zero_of n h = omega (arith, ltb-false 0 n h)

-- all items are right after a change of one
right-changed : (begun : ℕ) (stacks : List (List Frame)) (m : Items) (s : ℕ) (i : Item) → 1 ≤ s → s ≤ begun → i.frames ≡ count_on (names s) stacks
    → ((q : ℕ) → q ≢ s → IsRightItem begun stacks q (map.get m q)) → (q : ℕ) → IsRightItem begun stacks q (map.get (changed m s i) q)
right-changed begun stacks m s i low high e others q = go (is_kept i) refl where
  go : (b : Bool) → is_kept i ≡ b → IsRightItem begun stacks q (map.get (cond b (map.insert m s i) (map.remove m s)) q)
  go true k =
      subst (IsRightItem begun stacks q) (sym (get-insert nat_cmp_total m s i q))
      (by_key (IsRightItem begun stacks q) q s (Some i) (map.get m q) (λ same. subst (λ n. IsRightItem begun stacks n (Some i)) (sym same) (low, high, e, k)) (others q))
  go false k =
      subst (IsRightItem begun stacks q) (sym (get-remove nat_cmp_total m s q))
      (by_key (IsRightItem begun stacks q) q s None (map.get m q) (λ same. subst (λ n. IsRightItem begun stacks n None) (sym same) (sym e ∙ zero_of i.frames (last_false (is_none i.answer) i.owed (nat_lt 0 i.frames) k))) (others q))

-- a change of one item adds none
few-changed : (m : Items) (s : ℕ) (i v : Item) → map.get m s ≡ Some v → map.len (changed m s i) ≤ map.len m
few-changed m s i v h = go (is_kept i) where
  go : (b : Bool) → map.len (cond b (map.insert m s i) (map.remove m s)) ≤ map.len m
  go true =
      let e : map.len (map.insert m s i) ≡ map.len m = len-insert nat_cmp_total m s i ∙ ap (λ o. cond (is_some o) (map.len m) (map.len m + 1)) h in
      omega (arith, e)
  go false =
      let e : map.len (map.remove m s) ≡ map.len m - 1 = len-remove nat_cmp_total m s ∙ ap (λ o. cond (is_some o) (map.len m - 1) (map.len m)) h in
      omega (arith, e)

agrees-changed : (begun : ℕ) (stacks : List (List Frame)) (m : Items) (s : ℕ) (i v : Item)
    → (1 ≤ length stacks) × (length stacks ≤ 15) → ((j : ℕ) → length (get_or stacks j []) ≤ 64) → map.len m ≤ 1024
    → map.get m s ≡ Some v → 1 ≤ s → s ≤ begun → i.frames ≡ count_on (names s) stacks
    → ((q : ℕ) → q ≢ s → IsRightItem begun stacks q (map.get m q)) → Agrees begun stacks (changed m s i)
agrees-changed begun stacks m s i v threads depth few there low high e others = record {
  threads = threads;
  depth = depth;
  items = right-changed begun stacks m s i low high e others;
  few = omega (arith, few-changed m s i v there);
}

view-changed : (begun : ℕ) (stacks : List (List Frame)) (m : Items) (s : ℕ) (i : Item) → i.frames ≡ count_on (names s) stacks
    → book_of begun stacks (changed m s i) ≡ with_send (book_of begun stacks m) s (known_of i)
view-changed begun stacks m s i e =
    let as_known : map.FinMap nat_cmp KnownSend → Book = λ k. record { begun = begun; stacks = stacks; known = k } in
    ap as_known (known_in-changed stacks m s i e)

-- what an answer does
pub agrees-answer : (begun : ℕ) (stacks : List (List Frame)) (m : Items) (s : ℕ) (x : ℕ × Cause) → Agrees begun stacks m → Agrees begun stacks (with_answer m s x)
agrees-answer begun stacks m s x a = go (map.get m s) refl where
  open_item : (i : Item) → map.get m s ≡ Some i → (b : Bool) → Agrees begun stacks (cond b (changed m s (record i { answer = Some x })) m)
  open_item i h true =
      let right : IsRightItem begun stacks s (Some i) = subst (IsRightItem begun stacks s) h (a.items s) in
      agrees-changed begun stacks m s (record i { answer = Some x }) i a.threads a.depth a.few h right.0 right.1 right.2 (λ q _. a.items q)
  open_item i h false = a

  go : (o : Option Item) → map.get m s ≡ o → Agrees begun stacks (with_answer_as m s x o)
  go None h = a
  go (Some i) h = open_item i h (is_none i.answer)

pub view-answer : (begun : ℕ) (stacks : List (List Frame)) (m : Items) (s : ℕ) (x : ℕ × Cause) → Agrees begun stacks m
    → book_of begun stacks (with_answer m s x) ≡ answered_by (book_of begun stacks m) s x
view-answer begun stacks m s x a = go (map.get m s) refl ∙ ap (answered_as (book_of begun stacks m) s x) (sym (get-known_in m s)) where
  open_item : (i : Item) → map.get m s ≡ Some i → (b : Bool)
      → book_of begun stacks (cond b (changed m s (record i { answer = Some x })) m) ≡ cond b (with_send (book_of begun stacks m) s (known_of (record i { answer = Some x }))) (book_of begun stacks m)
  open_item i h true =
      let right : IsRightItem begun stacks s (Some i) = subst (IsRightItem begun stacks s) h (a.items s) in
      view-changed begun stacks m s (record i { answer = Some x }) right.2
  open_item i h false = refl

  go : (o : Option Item) → map.get m s ≡ o → book_of begun stacks (with_answer_as m s x o) ≡ answered_as (book_of begun stacks m) s x (option_map known_of o)
  go None h = refl
  go (Some i) h = open_item i h (is_none i.answer)

pub open-shown : (m : Items) (s : ℕ) → is_unanswered (map.get m s) ≡ is_open (map.get (known_in m) s)
open-shown m s = go (map.get m s) ∙ ap is_open (sym (get-known_in m s)) where
  go : (o : Option Item) → is_unanswered o ≡ is_open (option_map known_of o)
  go None = refl
  go (Some i) = refl

-- what the end of a debt does
pub agrees-debt : (begun : ℕ) (stacks : List (List Frame)) (m : Items) (s : ℕ) → Agrees begun stacks m → Agrees begun stacks (without_debt m s)
agrees-debt begun stacks m s a = go (map.get m s) refl where
  go : (o : Option Item) → map.get m s ≡ o → Agrees begun stacks (without_debt_as m s o)
  go None h = a
  go (Some i) h =
      let right : IsRightItem begun stacks s (Some i) = subst (IsRightItem begun stacks s) h (a.items s) in
      agrees-changed begun stacks m s (record i { owed = false }) i a.threads a.depth a.few h right.0 right.1 right.2 (λ q _. a.items q)

pub view-debt : (begun : ℕ) (stacks : List (List Frame)) (m : Items) (s : ℕ) → Agrees begun stacks m
    → book_of begun stacks (without_debt m s) ≡ forgotten (book_of begun stacks m) s
view-debt begun stacks m s a = go (map.get m s) refl ∙ ap (forgotten_as (book_of begun stacks m) s) (sym (get-known_in m s)) where
  go : (o : Option Item) → map.get m s ≡ o → book_of begun stacks (without_debt_as m s o) ≡ forgotten_as (book_of begun stacks m) s (option_map known_of o)
  go None h = refl
  go (Some i) h =
      let right : IsRightItem begun stacks s (Some i) = subst (IsRightItem begun stacks s) h (a.items s) in
      view-changed begun stacks m s (record i { owed = false }) right.2

-- one for a test that passes
abbrev as_count : Bool → ℕ
as_count b = cond b 1 0

-- the frames that name a send, where a stack loses its newest
count-less : (q : ℕ) (stacks : List (List Frame)) (j : ℕ) (f : Frame) (fs : List Frame) → j < length stacks → get_or stacks j [] ≡ f ∷ fs
    → count_on (names q) (set stacks j fs) + as_count (is_send q (named_by f)) ≡ count_on (names q) stacks
count-less q stacks j f fs h is =
    let e = subst (λ gs. count_on (names q) (set stacks j fs) + count_in (names q) gs ≡ count_on (names q) stacks + count_in (names q) fs) is (count_on-set (names q) stacks j fs h) in
    omega (arith, e)

-- the same, where a stack gets a frame
count-more : (q : ℕ) (stacks : List (List Frame)) (j : ℕ) (f : Frame) → j < length stacks
    → count_on (names q) (set stacks j (f ∷ get_or stacks j [])) ≡ count_on (names q) stacks + as_count (is_send q (named_by f))
count-more q stacks j f h =
    let e = count_on-set (names q) stacks j (f ∷ get_or stacks j []) h in
    omega (arith, e)

-- an item stays right where as many frames name its send
right-same : (begun : ℕ) (old new : List (List Frame)) (q : ℕ) (o : Option Item) → count_on (names q) new ≡ count_on (names q) old
    → IsRightItem begun old q o → IsRightItem begun new q o
right-same begun old new q None e r = e ∙ r
right-same begun old new q (Some i) e r = (r.0, r.1, r.2 ∙ sym e, r.3)

-- another send is not this one
other : (q s : ℕ) → q ≢ s → as_count (q == s) ≡ 0
other q s ne = ap as_count (ne_eqb q s ne)

itself : (s : ℕ) → as_count (s == s) ≡ 1
itself s = go (s == s) (eqb_refl s) where
  go : (b : Bool) → T b → as_count b ≡ 1
  go true h = refl
  go false h = absurd h

-- what the end of a frame does
module _ (begun : ℕ) (stacks : List (List Frame)) (m : Items) (j : ℕ) (f : Frame) (fs : List Frame) (a : Agrees begun stacks m) (h : j < length stacks) (is : get_or stacks j [] ≡ f ∷ fs) where
  less_deep : (i : ℕ) → length (get_or (set stacks j fs) i []) ≤ 64
  less_deep = depth-set stacks j fs (let e : length (f ∷ fs) ≤ 64 = subst (λ gs. length gs ≤ 64) is (a.depth j) in omega (arith, e)) a.depth

  as_many : (1 ≤ length (set stacks j fs)) × (length (set stacks j fs) ≤ 15)
  as_many = subst (λ n. (1 ≤ n) × (n ≤ 15)) (sym (length-set stacks j fs)) a.threads

  -- of the frame's own send
  pub frames_left : (s : ℕ) (i : Item) → named_by f ≡ Some s → map.get m s ≡ Some i → count_on (names s) (set stacks j fs) + 1 ≡ i.frames
  frames_left s i n e =
      let right : IsRightItem begun stacks s (Some i) = subst (IsRightItem begun stacks s) e (a.items s) in
      let less = count-less s stacks j f fs h is in
      let one : as_count (is_send s (named_by f)) ≡ 1 = ap (λ o. as_count (is_send s o)) n ∙ itself s in
      omega (arith, right.2, less, one)

  -- a frame's send is known
  pub is_known : (s : ℕ) → named_by f ≡ Some s → map.get m s ≡ None → ⊥
  is_known s n e =
      let right : IsRightItem begun stacks s None = subst (IsRightItem begun stacks s) e (a.items s) in
      let less = count-less s stacks j f fs h is in
      let one : as_count (is_send s (named_by f)) ≡ 1 = ap (λ o. as_count (is_send s o)) n ∙ itself s in
      omega (arith, right, less, one)

  others_left : (s : ℕ) → named_by f ≡ Some s → (q : ℕ) → q ≢ s → IsRightItem begun (set stacks j fs) q (map.get m q)
  others_left s n q ne =
      let less = count-less q stacks j f fs h is in
      let none : as_count (is_send q (named_by f)) ≡ 0 = ap (λ o. as_count (is_send q o)) n ∙ other q s ne in
      right-same begun stacks (set stacks j fs) q (map.get m q) (omega (arith, less, none)) (a.items q)

  nobodys : named_by f ≡ None → (q : ℕ) → IsRightItem begun (set stacks j fs) q (map.get m q)
  nobodys n q =
      let less = count-less q stacks j f fs h is in
      let none : as_count (is_send q (named_by f)) ≡ 0 = ap (λ o. as_count (is_send q o)) n in
      right-same begun stacks (set stacks j fs) q (map.get m q) (omega (arith, less, none)) (a.items q)

  pub agrees-down : Agrees begun (set stacks j fs) (counted_down m (named_by f))
  agrees-down = go (named_by f) refl where
    of_item : (s : ℕ) → named_by f ≡ Some s → (o : Option Item) → map.get m s ≡ o → Agrees begun (set stacks j fs) (counted_down_as m s o)
    of_item s n None e = absurd (is_known s n e)
    of_item s n (Some i) e =
        let right : IsRightItem begun stacks s (Some i) = subst (IsRightItem begun stacks s) e (a.items s) in
        let left : i.frames - 1 ≡ count_on (names s) (set stacks j fs) = omega (arith, frames_left s i n e) in
        agrees-changed begun (set stacks j fs) m s (record i { frames = i.frames - 1 }) i as_many less_deep a.few e right.0 right.1 left (others_left s n)

    go : (o : Option ℕ) → named_by f ≡ o → Agrees begun (set stacks j fs) (counted_down m o)
    go None n = record { threads = as_many; depth = less_deep; items = nobodys n; few = a.few }
    go (Some s) n = of_item s n (map.get m s) refl

  pub view-down : book_of begun (set stacks j fs) (counted_down m (named_by f)) ≡ settled (book_of begun (set stacks j fs) m) (named_by f)
  view-down = go (named_by f) refl where
    of_item : (s : ℕ) → named_by f ≡ Some s → (o : Option Item) → map.get m s ≡ o
        → book_of begun (set stacks j fs) (counted_down_as m s o) ≡ settled_as (book_of begun (set stacks j fs) m) s (option_map known_of o)
    of_item s n None e = refl
    of_item s n (Some i) e =
        let left : i.frames - 1 ≡ count_on (names s) (set stacks j fs) = omega (arith, frames_left s i n e) in
        view-changed begun (set stacks j fs) m s (record i { frames = i.frames - 1 }) left

    go : (o : Option ℕ) → named_by f ≡ o → book_of begun (set stacks j fs) (counted_down m o) ≡ settled (book_of begun (set stacks j fs) m) o
    go None n = refl
    go (Some s) n = of_item s n (map.get m s) refl ∙ ap (settled_as (book_of begun (set stacks j fs) m) s) (sym (get-known_in m s))

  pub room-down : (o : Option SendId) → option_map (λ (s : SendId). s.0) o ≡ named_by f → IfSome o (λ s. IfSome (map.get m s.0) (λ i. 0 < i.frames))
  room-down None e = tt
  room-down (Some s) e = go (map.get m s.0) refl where
    go : (o : Option Item) → map.get m s.0 ≡ o → IfSome o (λ i. 0 < i.frames)
    go None h = tt
    go (Some i) h = omega (arith, frames_left s.0 i (sym e) h)

-- the newest frame of a stack, if there is one, is taken
module _ (begun : ℕ) (stacks : List (List Frame)) (m : Items) (t : ℕ) (a : Agrees begun stacks m) (low : 1 ≤ t) (high : t ≤ length stacks) where
  pub agrees-pop : Agrees begun (set stacks (t - 1) (drop 1 (get_or stacks (t - 1) []))) (counted_down m (option_and_then named_by (slice_get (get_or stacks (t - 1) []) 0)))
  agrees-pop = go (get_or stacks (t - 1) []) refl where
    go : (gs : List Frame) → get_or stacks (t - 1) [] ≡ gs → Agrees begun (set stacks (t - 1) (drop 1 gs)) (counted_down m (option_and_then named_by (slice_get gs 0)))
    go [] is = subst (λ x. Agrees begun x m) (sym (ap (set stacks (t - 1)) (sym is) ∙ set-get_or stacks (t - 1) [])) a
    go (f ∷ fs) is = agrees-down begun stacks m (t - 1) f fs a (omega arith) is

  pub view-pop : book_of begun (set stacks (t - 1) (drop 1 (get_or stacks (t - 1) []))) (counted_down m (option_and_then named_by (slice_get (get_or stacks (t - 1) []) 0))) ≡ popped (book_of begun stacks m) t
  view-pop = go (get_or stacks (t - 1) []) refl where
    go : (gs : List Frame) → get_or stacks (t - 1) [] ≡ gs
        → book_of begun (set stacks (t - 1) (drop 1 gs)) (counted_down m (option_and_then named_by (slice_get gs 0))) ≡ popped_from (book_of begun stacks m) t gs
    go [] is = ap (λ x. book_of begun x m) (ap (set stacks (t - 1)) (sym is) ∙ set-get_or stacks (t - 1) [])
    go (f ∷ fs) is = view-down begun stacks m (t - 1) f fs a (omega arith) is

  pub room-pop : (o : Option SendId) → option_map (λ (s : SendId). s.0) o ≡ option_and_then named_by (slice_get (get_or stacks (t - 1) []) 0) → IfSome o (λ s. IfSome (map.get m s.0) (λ i. 0 < i.frames))
  room-pop o = go (get_or stacks (t - 1) []) refl o where
    go : (gs : List Frame) → get_or stacks (t - 1) [] ≡ gs → (o : Option SendId) → option_map (λ (s : SendId). s.0) o ≡ option_and_then named_by (slice_get gs 0)
        → IfSome o (λ s. IfSome (map.get m s.0) (λ i. 0 < i.frames))
    go [] is None e = tt
    go [] is (Some s) e = absurd (subst T (ap is_some e) tt)
    go (f ∷ fs) is o e = room-down begun stacks m (t - 1) f fs a (omega arith) is o e

  pub after-pop : (stacks' : List (List Frame)) (m' : Items) → stacks' ≡ set stacks (t - 1) (drop 1 (get_or stacks (t - 1) []))
      → m' ≡ counted_down m (option_and_then named_by (slice_get (get_or stacks (t - 1) []) 0))
      → Agrees begun stacks' m' × (book_of begun stacks' m' ≡ popped (book_of begun stacks m) t)
  after-pop stacks' m' x y = (
    subst (λ u. Agrees begun u m') (sym x) (subst (Agrees begun (set stacks (t - 1) (drop 1 (get_or stacks (t - 1) [])))) (sym y) agrees-pop),
    ap (λ u. book_of begun u m') x ∙ ap (book_of begun (set stacks (t - 1) (drop 1 (get_or stacks (t - 1) [])))) y ∙ view-pop,
  )

-- what a new frame does
module _ (begun : ℕ) (stacks : List (List Frame)) (m : Items) (j : ℕ) (f : Frame) (a : Agrees begun stacks m) (h : j < length stacks) (room : length (get_or stacks j []) < 64) (known : IfSome (named_by f) (λ s. IsSome (map.get m s))) where
  more_deep : (i : ℕ) → length (get_or (set stacks j (f ∷ get_or stacks j [])) i []) ≤ 64
  more_deep = depth-set stacks j (f ∷ get_or stacks j []) (omega (arith, room)) a.depth

  still_as_many : (1 ≤ length (set stacks j (f ∷ get_or stacks j []))) × (length (set stacks j (f ∷ get_or stacks j [])) ≤ 15)
  still_as_many = subst (λ n. (1 ≤ n) × (n ≤ 15)) (sym (length-set stacks j (f ∷ get_or stacks j []))) a.threads

  frames_more : (s : ℕ) (i : Item) → named_by f ≡ Some s → map.get m s ≡ Some i → i.frames + 1 ≡ count_on (names s) (set stacks j (f ∷ get_or stacks j []))
  frames_more s i n e =
      let right : IsRightItem begun stacks s (Some i) = subst (IsRightItem begun stacks s) e (a.items s) in
      let more = count-more s stacks j f h in
      let one : as_count (is_send s (named_by f)) ≡ 1 = ap (λ o. as_count (is_send s o)) n ∙ itself s in
      omega (arith, right.2, more, one)

  others_more : (s : ℕ) → named_by f ≡ Some s → (q : ℕ) → q ≢ s → IsRightItem begun (set stacks j (f ∷ get_or stacks j [])) q (map.get m q)
  others_more s n q ne =
      let more = count-more q stacks j f h in
      let none : as_count (is_send q (named_by f)) ≡ 0 = ap (λ o. as_count (is_send q o)) n ∙ other q s ne in
      right-same begun stacks (set stacks j (f ∷ get_or stacks j [])) q (map.get m q) (omega (arith, more, none)) (a.items q)

  nobodys_more : named_by f ≡ None → (q : ℕ) → IsRightItem begun (set stacks j (f ∷ get_or stacks j [])) q (map.get m q)
  nobodys_more n q =
      let more = count-more q stacks j f h in
      let none : as_count (is_send q (named_by f)) ≡ 0 = ap (λ o. as_count (is_send q o)) n in
      right-same begun stacks (set stacks j (f ∷ get_or stacks j [])) q (map.get m q) (omega (arith, more, none)) (a.items q)

  pub agrees-up : Agrees begun (set stacks j (f ∷ get_or stacks j [])) (counted_up m (named_by f))
  agrees-up = go (named_by f) refl known where
    of_item : (s : ℕ) → named_by f ≡ Some s → (o : Option Item) → map.get m s ≡ o → IsSome o → Agrees begun (set stacks j (f ∷ get_or stacks j [])) (counted_up_as m s o)
    of_item s n None e k = absurd (subst T (sym k) tt)
    of_item s n (Some i) e k =
        let right : IsRightItem begun stacks s (Some i) = subst (IsRightItem begun stacks s) e (a.items s) in
        agrees-changed begun (set stacks j (f ∷ get_or stacks j [])) m s (record i { frames = i.frames + 1 }) i still_as_many more_deep a.few e right.0 right.1 (frames_more s i n e) (others_more s n)

    go : (o : Option ℕ) → named_by f ≡ o → IfSome o (λ s. IsSome (map.get m s)) → Agrees begun (set stacks j (f ∷ get_or stacks j [])) (counted_up m o)
    go None n k = record { threads = still_as_many; depth = more_deep; items = nobodys_more n; few = a.few }
    go (Some s) n k = of_item s n (map.get m s) refl k

  pub view-up : book_of begun (set stacks j (f ∷ get_or stacks j [])) (counted_up m (named_by f)) ≡ book_of begun (set stacks j (f ∷ get_or stacks j [])) m
  view-up = ap (λ k. record { begun = begun; stacks = set stacks j (f ∷ get_or stacks j []); known = k }) (go (named_by f)) where
    kept_more : (i : Item) → is_kept (record i { frames = i.frames + 1 }) ≡ true
    kept_more i = go (is_none i.answer) i.owed where
      above : nat_lt 0 (i.frames + 1) ≡ true
      above = lt-ltb 0 (i.frames + 1) (omega arith)

      go : (b c : Bool) → (b || c || nat_lt 0 (i.frames + 1)) ≡ true
      go true c = refl
      go false true = refl
      go false false = above

    of_item : (s : ℕ) (o : Option Item) → map.get m s ≡ o → known_in (counted_up_as m s o) ≡ known_in m
    of_item s None e = refl
    of_item s (Some i) e =
        ap (λ b. known_in (cond b (map.insert m s (record i { frames = i.frames + 1 })) (map.remove m s))) (kept_more i)
        ∙ known_in-insert m s (record i { frames = i.frames + 1 })
        ∙ insert_same (known_in m) s (known_of i) (get-known_in m s ∙ ap (option_map known_of) e)

    go : (o : Option ℕ) → known_in (counted_up m o) ≡ known_in m
    go None = refl
    go (Some s) = of_item s (map.get m s) refl

  pub after-push : (stacks' : List (List Frame)) (m' : Items) → stacks' ≡ set stacks j (f ∷ get_or stacks j []) → m' ≡ counted_up m (named_by f)
      → Agrees begun stacks' m' × (book_of begun stacks' m' ≡ book_of begun (set stacks j (f ∷ get_or stacks j [])) m)
  after-push stacks' m' x y = (
    subst (λ u. Agrees begun u m') (sym x) (subst (Agrees begun (set stacks j (f ∷ get_or stacks j []))) (sym y) agrees-up),
    ap (λ u. book_of begun u m') x ∙ ap (book_of begun (set stacks j (f ∷ get_or stacks j []))) y ∙ view-up,
  )

-- a count of frames has room to grow
pub room-up : (begun : ℕ) (stacks : List (List Frame)) (m : Items) → Agrees begun stacks m → (o : Option SendId) → IfSome o (λ s. IfSome (map.get m s.0) (λ i. i.frames + 1 < 2 ^ 32))
room-up begun stacks m a None = tt
room-up begun stacks m a (Some s) = go (map.get m s.0) refl where
  go : (o : Option Item) → map.get m s.0 ≡ o → IfSome o (λ i. i.frames + 1 < 2 ^ 32)
  go None e = tt
  go (Some i) e =
      let right : IsRightItem begun stacks s.0 (Some i) = subst (IsRightItem begun stacks s.0) e (a.items s.0) in
      let bound = count_on-bound (names s.0) stacks a.depth in
      omega (arith, right.2, bound, a.threads.1)

-- what is known by the book is known by the table
pub known-shown : (m : Items) (s : ℕ) → IsSome (map.get (known_in m) s) → IsSome (map.get m s)
known-shown m s h = go (map.get m s) (subst IsSome (get-known_in m s) h) where
  go : (o : Option Item) → IsSome (option_map known_of o) → IsSome o
  go None k = k
  go (Some i) k = refl

-- a frame on the top leaves as many stacks
pub length-with_top : (stacks : List (List Frame)) (t : ℕ) (o : Option Frame) → length (with_top stacks t o) ≡ length stacks
length-with_top stacks t None = refl
length-with_top stacks t (Some f) = length-set stacks (t - 1) (f ∷ get_or stacks (t - 1) [])

-- what a beginning does
module _ (begun : ℕ) (stacks : List (List Frame)) (m : Items) (r : SendRow) (a : Agrees begun stacks m) (low : 1 ≤ r.from.0) (high : r.from.0 ≤ length stacks) (few : map.len m < 1024) (room : pushes_at_begin r ≡ true → length (get_or stacks (r.from.0 - 1) []) < 64) where
  -- the frames that name a send afterwards
  counted : (q : ℕ) → count_on (names q) (with_top stacks r.from.0 (frame_at_begin r (record { 0 = begun + 1 }))) ≡ count_on (names q) stacks + cond (pushes_at_begin r) (as_count (q == (begun + 1))) 0
  counted q = go (is_inside r) (is_waiting r.kind) where
    go : (b c : Bool) → count_on (names q) (with_top stacks r.from.0 (cond b (Some (Inside (record { 0 = begun + 1 }))) (cond c (Some (Await (record { 0 = begun + 1 }))) None))) ≡ count_on (names q) stacks + cond (b || c) (as_count (q == (begun + 1))) 0
    go true c = count-more q stacks (r.from.0 - 1) (Inside (record { 0 = begun + 1 })) (omega arith)
    go false true = count-more q stacks (r.from.0 - 1) (Await (record { 0 = begun + 1 })) (omega arith)
    go false false = omega arith

  -- the new number is nobody's yet
  fresh : map.get m (begun + 1) ≡ None
  fresh = go (map.get m (begun + 1)) refl where
    go : (o : Option Item) → map.get m (begun + 1) ≡ o → o ≡ None
    go None e = refl
    go (Some i) e =
        let right : IsRightItem begun stacks (begun + 1) (Some i) = subst (IsRightItem begun stacks (begun + 1)) e (a.items (begun + 1)) in
        absurd (omega (arith, right.1))

  unnamed : count_on (names (begun + 1)) stacks ≡ 0
  unnamed = subst (IsRightItem begun stacks (begun + 1)) fresh (a.items (begun + 1))

  later : (q : ℕ) (o : Option Item) → q ≢ (begun + 1) → IsRightItem begun stacks q o → IsRightItem (begun + 1) (with_top stacks r.from.0 (frame_at_begin r (record { 0 = begun + 1 }))) q o
  later q o ne right = go (pushes_at_begin r) (counted q) o right where
    go : (b : Bool) → count_on (names q) (with_top stacks r.from.0 (frame_at_begin r (record { 0 = begun + 1 }))) ≡ count_on (names q) stacks + cond b (as_count (q == (begun + 1))) 0
        → (o : Option Item) → IsRightItem begun stacks q o → IsRightItem (begun + 1) (with_top stacks r.from.0 (frame_at_begin r (record { 0 = begun + 1 }))) q o
    go true e None x = omega (arith, e, other q (begun + 1) ne, x)
    go false e None x = omega (arith, e, x)
    go true e (Some i) x = (x.0, omega (arith, x.1), omega (arith, e, other q (begun + 1) ne, x.2), x.3)
    go false e (Some i) x = (x.0, omega (arith, x.1), omega (arith, e, x.2), x.3)

  itself_new : IsRightItem (begun + 1) (with_top stacks r.from.0 (frame_at_begin r (record { 0 = begun + 1 }))) (begun + 1) (Some (new_item r))
  itself_new = (omega arith, omega arith, frames, refl) where
    frames : cond (pushes_at_begin r) 1 0 ≡ count_on (names (begun + 1)) (with_top stacks r.from.0 (frame_at_begin r (record { 0 = begun + 1 })))
    frames = go (pushes_at_begin r) (counted (begun + 1)) where
      go : (b : Bool) → count_on (names (begun + 1)) (with_top stacks r.from.0 (frame_at_begin r (record { 0 = begun + 1 }))) ≡ count_on (names (begun + 1)) stacks + cond b (as_count ((begun + 1) == (begun + 1))) 0
          → cond b 1 0 ≡ count_on (names (begun + 1)) (with_top stacks r.from.0 (frame_at_begin r (record { 0 = begun + 1 })))
      go true e = omega (arith, e, itself (begun + 1), unnamed)
      go false e = omega (arith, e, unnamed)

  deep : (i : ℕ) → length (get_or (with_top stacks r.from.0 (frame_at_begin r (record { 0 = begun + 1 }))) i []) ≤ 64
  deep = go (is_inside r) (is_waiting r.kind) room where
    go : (b c : Bool) → ((b || c) ≡ true → length (get_or stacks (r.from.0 - 1) []) < 64)
        → (i : ℕ) → length (get_or (with_top stacks r.from.0 (cond b (Some (Inside (record { 0 = begun + 1 }))) (cond c (Some (Await (record { 0 = begun + 1 }))) None))) i []) ≤ 64
    go true c k = depth-set stacks (r.from.0 - 1) (Inside (record { 0 = begun + 1 }) ∷ get_or stacks (r.from.0 - 1) []) (omega (arith, k refl)) a.depth
    go false true k = depth-set stacks (r.from.0 - 1) (Await (record { 0 = begun + 1 }) ∷ get_or stacks (r.from.0 - 1) []) (omega (arith, k refl)) a.depth
    go false false k = a.depth

  pub agrees-begin : Agrees (begun + 1) (with_top stacks r.from.0 (frame_at_begin r (record { 0 = begun + 1 }))) (map.insert m (begun + 1) (new_item r))
  agrees-begin = record {
    threads = subst (λ n. (1 ≤ n) × (n ≤ 15)) (sym (length-with_top stacks r.from.0 (frame_at_begin r (record { 0 = begun + 1 })))) a.threads;
    depth = deep;
    items = λ q. subst (IsRightItem (begun + 1) (with_top stacks r.from.0 (frame_at_begin r (record { 0 = begun + 1 }))) q) (sym (get-insert nat_cmp_total m (begun + 1) (new_item r) q))
        (by_key (IsRightItem (begun + 1) (with_top stacks r.from.0 (frame_at_begin r (record { 0 = begun + 1 }))) q) q (begun + 1) (Some (new_item r)) (map.get m q)
        (λ same. subst (λ n. IsRightItem (begun + 1) (with_top stacks r.from.0 (frame_at_begin r (record { 0 = begun + 1 }))) n (Some (new_item r))) (sym same) itself_new)
        (λ ne. later q (map.get m q) ne (a.items q)));
    few =
        let e : map.len (map.insert m (begun + 1) (new_item r)) ≡ map.len m + 1 =
        len-insert nat_cmp_total m (begun + 1) (new_item r) ∙ ap (λ o. cond (is_some o) (map.len m) (map.len m + 1)) fresh in
        omega (arith, e, few);
  }

-- what a beginning shows
view-begin : (begun : ℕ) (stacks : List (List Frame)) (m : Items) (r : SendRow)
    → book_of (begun + 1) (with_top stacks r.from.0 (frame_at_begin r (record { 0 = begun + 1 }))) (map.insert m (begun + 1) (new_item r)) ≡ begun_by (book_of begun stacks m) r
view-begin begun stacks m r =
    ap (λ k. record { begun = begun + 1; stacks = with_top stacks r.from.0 (frame_at_begin r (record { 0 = begun + 1 })); known = k }) (known_in-insert m (begun + 1) (new_item r))

pub after-begin : (begun : ℕ) (stacks : List (List Frame)) (m : Items) (r : SendRow) → Agrees begun stacks m → 1 ≤ r.from.0 → r.from.0 ≤ length stacks
    → (map.len m < 1024) × (pushes_at_begin r ≡ true → length (get_or stacks (r.from.0 - 1) []) < 64)
    → (n : ℕ) → n ≡ begun + 1 → (stacks' : List (List Frame)) → stacks' ≡ with_top stacks r.from.0 (frame_at_begin r (record { 0 = n }))
    → (m' : Items) → m' ≡ map.insert m n (new_item r)
    → Agrees n stacks' m' × (book_of n stacks' m' ≡ begun_by (book_of begun stacks m) r)
after-begin begun stacks m r a low high free n e =
    let P : ℕ → Type 0 = λ k. (stacks' : List (List Frame)) → stacks' ≡ with_top stacks r.from.0 (frame_at_begin r (record { 0 = k })) → (m' : Items) → m' ≡ map.insert m k (new_item r)
    → Agrees k stacks' m' × (book_of k stacks' m' ≡ begun_by (book_of begun stacks m) r) in
    subst P (sym e) (λ stacks' x m' y. (
      subst (λ u. Agrees (begun + 1) u m') (sym x) (subst (Agrees (begun + 1) (with_top stacks r.from.0 (frame_at_begin r (record { 0 = begun + 1 })))) (sym y) (agrees-begin begun stacks m r a low high free.0 free.1)),
      ap (λ u. book_of (begun + 1) u m') x ∙ ap (book_of (begun + 1) (with_top stacks r.from.0 (frame_at_begin r (record { 0 = begun + 1 })))) y ∙ view-begin begun stacks m r,
    ))

-- at first
pub agrees-new : (threads : ℕ) → 1 ≤ threads → threads ≤ 15 → Agrees 0 (replicate threads []) map.empty
agrees-new threads low high = record {
  threads = subst (λ n. (1 ≤ n) × (n ≤ 15)) (sym (length-replicate threads [])) (low, high);
  depth = depth-empty threads;
  items = λ s. subst (IsRightItem 0 (replicate threads []) s) (sym (get-empty nat_cmp s)) (count_on-empty (names s) threads);
  few = let e = len-empty nat_cmp Item in omega (arith, e);
}

-- a send that isn't refused has room
unrefused : (b : Book) (r : SendRow) → refusal_at_begin b r ≡ None → (map.len b.known < 1024) × (pushes_at_begin r ≡ true → length (stack_of b r.from.0) < 64)
unrefused b r = go (is_too_deep b r) refl (nat_le 1024 (map.len b.known)) refl where
  shallow : (p : Bool) (n : ℕ) → (p && nat_le 64 n) ≡ false → p ≡ true → n < 64
  shallow true n e h = leb-false 64 n e
  shallow false n e h = absurd (subst T (sym h) tt)

  go : (deep : Bool) → is_too_deep b r ≡ deep → (full : Bool) → nat_le 1024 (map.len b.known) ≡ full
      → cond deep (Some (Win 1001)) (cond full (Some Full) None) ≡ None → (map.len b.known < 1024) × (pushes_at_begin r ≡ true → length (stack_of b r.from.0) < 64)
  go true d full f e = absurd (subst T (ap is_some e) tt)
  go false d true f e = absurd (subst T (ap is_some e) tt)
  go false d false f e = (leb-false 1024 (map.len b.known) f, shallow (pushes_at_begin r) (length (stack_of b r.from.0)) d)

-- a frame whose send the book knows names one of the table
pub named-known : (m : Items) (f : Frame) → IfSome (named_by f) (λ s. IsSome (map.get (known_in m) s)) → IfSome (named_by f) (λ s. IsSome (map.get m s))
named-known m f = go (named_by f) where
  go : (o : Option ℕ) → IfSome o (λ s. IsSome (map.get (known_in m) s)) → IfSome o (λ s. IsSome (map.get m s))
  go None k = tt
  go (Some s) k = known-shown m s k

pub unrefused-parts : (begun : ℕ) (stacks : List (List Frame)) (m : Items) (r : SendRow) → refusal_at_begin (book_of begun stacks m) r ≡ None
    → (map.len m < 1024) × (pushes_at_begin r ≡ true → length (get_or stacks (r.from.0 - 1) []) < 64)
unrefused-parts begun stacks m r e =
    let free = unrefused (book_of begun stacks m) r e in
    (subst (λ n. n < 1024) (len-known_in m) free.0, free.1)

pub after-new : (threads : ℕ) → 1 ≤ threads → threads ≤ 15 → (stacks : List (List Frame)) → stacks ≡ replicate threads [] → (m : Items) → m ≡ map.empty
    → Agrees 0 stacks m × (book_of 0 stacks m ≡ no_sends threads)
after-new threads low high stacks x m y = (
  subst (λ u. Agrees 0 u m) (sym x) (subst (Agrees 0 (replicate threads [])) (sym y) (agrees-new threads low high)),
  ap (λ u. book_of 0 u m) x ∙ ap (book_of 0 (replicate threads [])) y ∙ ap (λ k. record { begun = 0; stacks = replicate threads []; known = k }) known_in-empty,
)
