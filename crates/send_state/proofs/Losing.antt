-- Sends in the order of their numbers: those that aren't known are skipped.
use Rattle.std.proofs.Common.{◌≡◌, ℕ, zero, suc, ◌+◌, ◌^◌, ◌<◌, ◌≤◌, Bool, true, false, cond, List, [], ◌∷◌, set, Option, Some, None, refl, sym, ap, subst, ◌∙◌, inl, inr, arith}
use Rattle.std.specs.Prelude.{◌&&◌, IsSome, is_none, is_some}
use Rattle.std.specs.FinMap as map
use Rattle.std.proofs.lemmas.Bool.{false≢true}
use Rattle.std.proofs.lemmas.Bool.Decides.{eqb_tells}
use Rattle.win_num.specs.declared.send.Cause.{Cause}
use Rattle.win_num.specs.declared.send.Cause.TheVariants.{Loss}
use Rattle.send_frames.specs.Book.{Book, IsNextAbove, IsRightSend, IsSound, KnownSend, answered_as, answered_by, forgotten, forgotten_as, with_send}
use Rattle.send_variants.specs.Lists.{Entry, all_without, names, or_else, place_in, place_on, without}
use Rattle.send_state.specs.Parts.{CanAnswer, CanLose, Ranked, answered, freed_step, freed_to, is_from, is_losable, is_lost, lost_step, lost_to, withdrawn}

-- a known send has a number that was given
pub known-within : (b : Book) (s : ℕ) → IsSound b → IsSome (map.get b.known s) → s ≤ b.begun
known-within b s sound = go (map.get b.known s) (sound.sends s) where
  go : (o : Option KnownSend) → IsRightSend b s o → IsSome o → s ≤ b.begun
  go None r h = absurd (false≢true h)
  go (Some k) r h = r.1

begun-with_send : (b : Book) (s : ℕ) (k : KnownSend) → (with_send b s k).begun ≡ b.begun
begun-with_send b s k = refl

pub begun-forgotten : (b : Book) (s : ℕ) → (forgotten b s).begun ≡ b.begun
begun-forgotten b s = go (map.get b.known s) where
  go : (o : Option KnownSend) → (forgotten_as b s o).begun ≡ b.begun
  go None = refl
  go (Some k) = refl

pub begun-answered : (b : Book) (s : ℕ) (a : ℕ × Cause) → (answered_by b s a).begun ≡ b.begun
begun-answered b s a = go (map.get b.known s) where
  by : (k : KnownSend) (c : Bool) → (cond c (with_send b s (record k { answer = Some a })) b).begun ≡ b.begun
  by k true = refl
  by k false = refl

  go : (o : Option KnownSend) → (answered_as b s a o).begun ≡ b.begun
  go None = refl
  go (Some k) = by k (is_none k.answer)

-- ---- results that are owed

freed-unknown : (t : ℕ) (b : Book) (s : ℕ) → map.get b.known s ≡ None → freed_step t b s ≡ b
freed-unknown t b s none = ap (λ o. cond (is_from t o) (forgotten b s) b) none

freed_to-skip : (t : ℕ) (b : Book) (n m : ℕ) → n ≤ m → ((j : ℕ) → n < j → j ≤ m → map.get (freed_to t b n).known j ≡ None) → freed_to t b m ≡ freed_to t b n
freed_to-skip t b n zero low none = let same : zero ≡ n = omega (arith, low) in ap (freed_to t b) same
freed_to-skip t b n (suc m) low none = elim (eqb_tells n (suc m)) [
  | inl x ↦ ap (freed_to t b) (sym x.1)
  | inr x ↦ let below : n ≤ m = omega (arith, low, x.1) in
      ap (λ c. freed_step t c (suc m)) (freed_to-skip t b n m below (λ j above under. none j above (omega (arith, under))))
      ∙ freed-unknown t (freed_to t b n) (suc m) (none (suc m) (omega (arith, below)) (omega arith))
]

pub freed-at : (t : ℕ) (b cur : Book) (n s : ℕ) → cur ≡ freed_to t b n → IsNextAbove cur.known n (Some s) → freed_to t b s ≡ freed_step t cur s
freed-at t b cur n zero is next = absurd (omega (arith, next.0))
freed-at t b cur n (suc p) is next =
    ap (λ c. freed_step t c (suc p)) (freed_to-skip t b n p (omega (arith, next.0)) (λ j above under. ap (λ (c : Book). map.get c.known j) (sym is) ∙ next.2 j above (omega (arith, under))) ∙ sym is)

pub freed-all : (t : ℕ) (b cur : Book) (n : ℕ) → cur ≡ freed_to t b n → n ≤ b.begun → IsNextAbove cur.known n None → cur ≡ freed_to t b b.begun
freed-all t b cur n is low none = is ∙ sym (freed_to-skip t b n b.begun low (λ j above under. ap (λ (c : Book). map.get c.known j) (sym is) ∙ none j above))

-- ---- sends that are lost

lost-unknown : (test : ℕ → Bool) (r : Ranked) (s : ℕ) → map.get r.0.book.known s ≡ None → lost_step test r s ≡ r
lost-unknown test r s none = ap (λ o. cond (is_losable test o && is_some (place_on s r.0.lists)) (answered (withdrawn r.0 s) s 0 Loss r.1, r.1 + 1) r) none

lost_to-skip : (test : ℕ → Bool) (r : Ranked) (n m : ℕ) → n ≤ m → ((j : ℕ) → n < j → j ≤ m → map.get (lost_to test r n).0.book.known j ≡ None) → lost_to test r m ≡ lost_to test r n
lost_to-skip test r n zero low none = let same : zero ≡ n = omega (arith, low) in ap (lost_to test r) same
lost_to-skip test r n (suc m) low none = elim (eqb_tells n (suc m)) [
  | inl x ↦ ap (lost_to test r) (sym x.1)
  | inr x ↦ let below : n ≤ m = omega (arith, low, x.1) in
      ap (λ c. lost_step test c (suc m)) (lost_to-skip test r n m below (λ j above under. none j above (omega (arith, under))))
      ∙ lost-unknown test (lost_to test r n) (suc m) (none (suc m) (omega (arith, below)) (omega arith))
]

lost-before : (test : ℕ → Bool) (r cur : Ranked) (n p : ℕ) → lost_to test r n ≡ cur → IsNextAbove cur.0.book.known n (Some (suc p)) → lost_to test r p ≡ cur
lost-before test r cur n p is next =
    lost_to-skip test r n p (omega (arith, next.0)) (λ j above under. ap (λ (c : Ranked). map.get c.0.book.known j) is ∙ next.2 j above (omega (arith, under))) ∙ is

pub lost-at : (test : ℕ → Bool) (r cur : Ranked) (n s : ℕ) → lost_to test r n ≡ cur → IsNextAbove cur.0.book.known n (Some s) → lost_to test r s ≡ lost_step test cur s
lost-at test r cur n zero is next = absurd (omega (arith, next.0))
lost-at test r cur n (suc p) is next = ap (λ c. lost_step test c (suc p)) (lost-before test r cur n p is next)

pub lost-all : (test : ℕ → Bool) (r cur : Ranked) (n m : ℕ) → lost_to test r n ≡ cur → n ≤ m → IsNextAbove cur.0.book.known n None → lost_to test r m ≡ cur
lost-all test r cur n m is low none = lost_to-skip test r n m low (λ j above under. ap (λ (c : Ranked). map.get c.0.book.known j) is ∙ none j above) ∙ is

-- a send that is lost can be answered
pub can-lose : (test : ℕ → Bool) (r cur : Ranked) (n s : ℕ) → lost_to test r n ≡ cur → IsNextAbove cur.0.book.known n (Some s) → CanLose test r → is_lost test cur.0 s ≡ true
    → CanAnswer (withdrawn cur.0 s) s cur.1 × (cur.1 + 1 < 2 ^ 32)
can-lose test r cur n zero is next can lost = absurd (omega (arith, next.0))
can-lose test r cur n (suc p) is next can lost =
    let e = lost-before test r cur n p is next in
    subst (λ (c : Ranked). CanAnswer (withdrawn c.0 (suc p)) (suc p) c.1 × (c.1 + 1 < 2 ^ 32)) e (can p (ap (λ (c : Ranked). is_lost test c.0 (suc p)) e ∙ lost))

-- each loss takes a rank
pub rank-grows : (test : ℕ → Bool) (r : Ranked) (n : ℕ) → r.1 ≤ (lost_to test r n).1
rank-grows test r zero = omega arith
rank-grows test r (suc n) = by (is_lost test (lost_to test r n).0 (suc n)) (rank-grows test r n) where
  by : (b : Bool) → r.1 ≤ (lost_to test r n).1 → r.1 ≤ (cond b (answered (withdrawn (lost_to test r n).0 (suc n)) (suc n) 0 Loss (lost_to test r n).1, (lost_to test r n).1 + 1) (lost_to test r n)).1
  by true h = omega (arith, h)
  by false h = h

-- a step that loses the send, and one that doesn't
pub lost-here : (test : ℕ → Bool) (cur : Ranked) (s : ℕ) → is_lost test cur.0 s ≡ true → lost_step test cur s ≡ (answered (withdrawn cur.0 s) s 0 Loss cur.1, cur.1 + 1)
lost-here test cur s lost = ap (λ b. cond b (answered (withdrawn cur.0 s) s 0 Loss cur.1, cur.1 + 1) cur) lost

pub kept-here : (test : ℕ → Bool) (cur : Ranked) (s : ℕ) → is_lost test cur.0 s ≡ false → lost_step test cur s ≡ cur
kept-here test cur s kept = ap (λ b. cond b (answered (withdrawn cur.0 s) s 0 Loss cur.1, cur.1 + 1) cur) kept

-- ---- a send that no list has

without-place : (s : ℕ) (es : List Entry) → place_in s es ≡ None → without s es ≡ es
without-place s [] h = refl
without-place s (e ∷ es) h = go (without-place s es) (names s e) h where
  go : (place_in s es ≡ None → without s es ≡ es) → (b : Bool) → cond b (Some e.0) (place_in s es) ≡ None → cond b (without s es) (e ∷ without s es) ≡ e ∷ es
  go more true k = absurd cc
  go more false k = ap (λ l. e ∷ l) (more k)

none_of_two : (o p : Option ℕ) → or_else o p ≡ None → (o ≡ None) × (p ≡ None)
none_of_two None p h = (refl, h)
none_of_two (Some n) p h = absurd cc

pub all_without-place : (s : ℕ) (lists : List (List Entry)) → place_on s lists ≡ None → all_without s lists ≡ lists
all_without-place s [] h = refl
all_without-place s (es ∷ lists) h =
    let two = none_of_two (place_in s es) (place_on s lists) h in
    ap (λ l. l ∷ all_without s lists) (without-place s es two.0) ∙ ap (λ l. es ∷ l) (all_without-place s lists two.1)

pub none_there : (o : Option ℕ) → is_some o ≡ false → o ≡ None
none_there None h = refl
none_there (Some n) h = absurd cc

pub both_true : (a b : Bool) → a ≡ true → b ≡ true → (a && b) ≡ true
both_true true b h k = k
both_true false b h k = h

pub left_false : (a b : Bool) → a ≡ false → (a && b) ≡ false
left_false true b h = absurd (false≢true (sym h))
left_false false b h = refl

pub right_false : (a b : Bool) → b ≡ false → (a && b) ≡ false
right_false true b h = h
right_false false b h = refl

-- of two writes to one place the later stands
pub set_twice : {A : Type 0} (l : List A) (i : ℕ) (a b : A) → set (set l i a) i b ≡ set l i b
set_twice [] i a b = refl
set_twice (x ∷ l) zero a b = refl
set_twice (x ∷ l) (suc i) a b = ap (λ m. x ∷ m) (set_twice l i a b)
