-- At most one frame of each kind names a send: how the calls keep it.
use Rattle.std.proofs.Common.{◌≡◌, ℕ, ◌+◌, ◌-◌, ◌<◌, ◌≤◌, Bool, true, false, cond, List, [], ◌∷◌, length, get_or, set, drop, replicate, Option, Some, None, refl, sym, ap, subst, ◌∙◌, arith}
use Rattle.std.specs.Prelude.{T, ◌==◌, IfSome}
use Rattle.std.specs.FinMap as map
use Rattle.std.proofs.Math.Dec.{eqb_refl}
use Rattle.std.proofs.lemmas.Map.Views.{exact_unsigned_eq}
use Rattle.win_num.specs.declared.send.Frame.{Frame}
use Rattle.win_num.specs.declared.send.Frame.TheVariants.{Entered, Inside, Await}
use Rattle.send_frames.specs.declared.row.SendRow.{SendRow}
use Rattle.send_frames.specs.declared.table.Item.{Item}
use Rattle.send_frames.specs.Book.{AreNamedOnce, IsNewFrame, count_in, count_on, frame_at_begin, is_inside, is_same, is_send, is_waiting, named_by, names, with_top}
use Rattle.send_frames.specs.Items.{Agrees, IsRightItem, Items}
use Rattle.send_frames.proofs.Counting.{count_on-set, count_on-empty}

-- frames of one kind that name one send are one frame
same-frame : (f g : Frame) → is_same f g ≡ true → f ≡ g
same-frame (Entered s) (Entered q) e = ap (λ n. Entered (record { 0 = n })) (exact_unsigned_eq s.0 q.0 e)
same-frame (Inside s) (Inside q) e = ap (λ n. Inside (record { 0 = n })) (exact_unsigned_eq s.0 q.0 e)
same-frame (Await s) (Await q) e = ap (λ n. Await (record { 0 = n })) (exact_unsigned_eq s.0 q.0 e)
same-frame f g e = absurd (subst T (sym e) tt)

-- a test that passes less often counts fewer
count_in-fewer : (p q : Frame → Bool) → ((f : Frame) → p f ≡ true → q f ≡ true) → (fs : List Frame) → count_in p fs ≤ count_in q fs
count_in-fewer p q h [] = omega arith
count_in-fewer p q h (f ∷ fs) = go (p f) (q f) (h f) (count_in-fewer p q h fs) where
  go : (b c : Bool) → (b ≡ true → c ≡ true) → count_in p fs ≤ count_in q fs → cond b 1 0 + count_in p fs ≤ cond c 1 0 + count_in q fs
  go false c k rest = omega (arith, rest)
  go true true k rest = omega (arith, rest)
  go true false k rest = absurd (subst T (sym (k refl)) tt)

count_on-fewer : (p q : Frame → Bool) → ((f : Frame) → p f ≡ true → q f ≡ true) → (stacks : List (List Frame)) → count_on p stacks ≤ count_on q stacks
count_on-fewer p q h [] = omega arith
count_on-fewer p q h (fs ∷ stacks) = omega (arith, count_in-fewer p q h fs, count_on-fewer p q h stacks)

-- where no frame names a send, none of a kind does
pub none-of-kind : (stacks : List (List Frame)) (s : ℕ) (g : Frame) → named_by g ≡ Some s → count_on (names s) stacks ≡ 0 → count_on (is_same g) stacks ≡ 0
none-of-kind stacks s g n zero = omega (arith, zero, count_on-fewer (is_same g) (names s) named stacks) where
  itself : (b : Bool) → T b → b ≡ true
  itself true h = refl
  itself false h = absurd h

  named : (f : Frame) → is_same g f ≡ true → names s f ≡ true
  named f e = ap (names s) (sym (same-frame g f e)) ∙ ap (is_send s) n ∙ itself (s == s) (eqb_refl s)

-- a frame that equals a new one: none of its kind names its send yet
none-yet : {X : Type 0} (f g : Frame) → is_same f g ≡ true → IfSome (named_by g) (λ _. X) → X
none-yet (Entered s) (Entered q) e x = x
none-yet (Inside s) (Inside q) e x = x
none-yet (Await s) (Await q) e x = x
none-yet f g e x = absurd (subst T (sym e) tt)

-- a new frame on the top of a stack
pub once-push : (stacks : List (List Frame)) (j : ℕ) (g : Frame) → j < length stacks → IsNewFrame stacks g → AreNamedOnce stacks → AreNamedOnce (set stacks j (g ∷ get_or stacks j []))
once-push stacks j g l new once f = go (is_same f g) refl (count_on-set (is_same f) stacks j (g ∷ get_or stacks j []) l) where
  go : (b : Bool) → is_same f g ≡ b → count_on (is_same f) (set stacks j (g ∷ get_or stacks j [])) + count_in (is_same f) (get_or stacks j []) ≡ count_on (is_same f) stacks + (cond b 1 0 + count_in (is_same f) (get_or stacks j []))
      → count_on (is_same f) (set stacks j (g ∷ get_or stacks j [])) ≤ 1
  go true e changed =
      let none : count_on (is_same f) stacks ≡ 0 = ap (λ x. count_on (is_same x) stacks) (same-frame f g e) ∙ none-yet f g e new in
      omega (arith, changed, none)
  go false e changed = omega (arith, changed, once f)

count_in-drop : (test : Frame → Bool) (fs : List Frame) → count_in test (drop 1 fs) ≤ count_in test fs
count_in-drop test [] = omega arith
count_in-drop test (f ∷ fs) = omega arith

-- the newest frame less
pub once-pop : (stacks : List (List Frame)) (j : ℕ) → j < length stacks → AreNamedOnce stacks → AreNamedOnce (set stacks j (drop 1 (get_or stacks j [])))
once-pop stacks j l once f =
    let changed = count_on-set (is_same f) stacks j (drop 1 (get_or stacks j [])) l in
    omega (arith, changed, count_in-drop (is_same f) (get_or stacks j []), once f)

-- at first
pub once-empty : (n : ℕ) → AreNamedOnce (replicate n [])
once-empty n f = omega (arith, count_on-empty (is_same f) n)

-- a beginning: no frame names its number before
pub once-begin : (begun : ℕ) (stacks : List (List Frame)) (m : Items) (r : SendRow) → Agrees begun stacks m → 1 ≤ r.from.0 → r.from.0 ≤ length stacks
    → AreNamedOnce stacks → AreNamedOnce (with_top stacks r.from.0 (frame_at_begin r (record { 0 = begun + 1 })))
once-begin begun stacks m r a low high once = go (is_inside r) (is_waiting r.kind) where
  unnamed : (o : Option Item) → IsRightItem begun stacks (begun + 1) o → count_on (names (begun + 1)) stacks ≡ 0
  unnamed None right = right
  unnamed (Some i) right = absurd (omega (arith, right.1))

  nobodys : count_on (names (begun + 1)) stacks ≡ 0
  nobodys = unnamed (map.get m (begun + 1)) (a.items (begun + 1))

  go : (b c : Bool) → AreNamedOnce (with_top stacks r.from.0 (cond b (Some (Inside (record { 0 = begun + 1 }))) (cond c (Some (Await (record { 0 = begun + 1 }))) None)))
  go true c =
      let g : Frame = Inside (record { 0 = begun + 1 }) in
      once-push stacks (r.from.0 - 1) g (omega (arith, low, high)) (none-of-kind stacks (begun + 1) g refl nobodys) once
  go false true =
      let g : Frame = Await (record { 0 = begun + 1 }) in
      once-push stacks (r.from.0 - 1) g (omega (arith, low, high)) (none-of-kind stacks (begun + 1) g refl nobodys) once
  go false false = once
