-- The place of a number in a list whose numbers rise.
use Rattle.std.proofs.Common.{◌≡◌, ℕ, zero, suc, ◌+◌, ◌<◌, ◌≤◌, ◌==◌, ◌⊎◌, inl, inr, false, not, cond, List, [], ◌∷◌, length, get_or, find, Option, Some, None, IfNone, IfSome, is_some, refl, ap, sym, ◌∙◌, arith}
use Rattle.std.specs.List.{AllByRecursion, remove}
use Rattle.std.specs.List.Sorted.{IsNonDecreasingBy}
use Rattle.std.proofs.lemmas.Bool.{cases_lt, eq-eqb, ne_eqb}
use Rattle.std.proofs.lemmas.List.Elements.{recursion_from_All}
use Rattle.input_queue.specs.declared.element.Element.{Element}
use Rattle.input_queue.specs.Elements.{AreRising, last_of, without}
use Rattle.input_queue.proofs.Changing.{all_kept, lacks_above}
use Rattle.input_queue.proofs.Sorting.{Rises, rises_from}

pub numbers_rise : (xs : List Element) → AreRising xs → IsNonDecreasingBy (λ x. x.number) xs
numbers_rise xs r i j d a l = by (cases_lt i j)
  where
    by : (i < j) ⊎ (j ≤ i) → (get_or xs i d).number ≤ (get_or xs j d).number
    by (inl b) = omega (arith, r i j d b l)
    by (inr b) = let same : i ≡ j = omega (arith, a, b) in omega (arith, ap (λ k. (get_or xs k d).number) same)

find_none : (n : ℕ) (xs : List Element) → AllByRecursion (λ x. (x.number == n) ≡ false) xs → find (λ x. x.number == n) xs ≡ None
find_none n [] a = refl
find_none n (x ∷ xs) a = ap (λ b. cond b (Some x) (find (λ y. y.number == n) xs)) a.0 ∙ find_none n xs a.1

-- those before the place have lower numbers, that at the place has a greater one
pub missed : (n : ℕ) (xs : List Element) (i : ℕ) → AreRising xs → ((k : ℕ) (d : Element) → k < i → k < length xs → (get_or xs k d).number < n) → ((d : Element) → i < length xs → n < (get_or xs i d).number) → find (λ x. x.number == n) xs ≡ None
missed n xs i r low high = find_none n xs (recursion_from_All (λ x. (x.number == n) ≡ false) xs (λ k d l. by k d l (cases_lt k i)))
  where
    at_or_behind : (k : ℕ) (d : Element) → k < length xs → i ≤ k → n < (get_or xs k d).number
    at_or_behind k d l b =
        let first : n < (get_or xs i d).number = high d (omega (arith, l, b)) in
        let rest : (get_or xs i d).number ≤ (get_or xs k d).number = numbers_rise xs r i k d b l in
        omega (arith, first, rest)

    by : (k : ℕ) (d : Element) → k < length xs → (k < i) ⊎ (i ≤ k) → ((get_or xs k d).number == n) ≡ false
    by k d l (inl b) = ne_eqb (get_or xs k d).number n (λ e. omega (arith, e, low k d b l))
    by k d l (inr b) = ne_eqb (get_or xs k d).number n (λ e. omega (arith, e, at_or_behind k d l b))

all_at : (P : Element → Type 0) (xs : List Element) (i : ℕ) (d : Element) → i < length xs → AllByRecursion P xs → P (get_or xs i d)
all_at P [] i d l a = absurd (omega (arith, l))
all_at P (x ∷ xs) zero d l a = a.0
all_at P (x ∷ xs) (suc i) d l a = all_at P xs i d (omega (arith, l)) a.1

-- the one at the place has the number
pub record IsFound (n : ℕ) (xs : List Element) (i : ℕ) (d : Element) : Type 0 where
  pub value : find (λ x. x.number == n) xs ≡ Some (get_or xs i d)
  pub left : without n xs ≡ remove xs i

pub found_at : (n : ℕ) (xs : List Element) (i : ℕ) (d : Element) → Rises xs → i < length xs → (get_or xs i d).number ≡ n → IsFound n xs i d
found_at n [] i d r l e = absurd (omega (arith, l))
found_at n (x ∷ xs) zero d r l e = record {
  value = ap (λ b. cond b (Some x) (find (λ y. y.number == n) xs)) (eq-eqb x.number n e);
  left = ap (λ b. cond (not b) (x ∷ without n xs) (without n xs)) (eq-eqb x.number n e) ∙ all_kept n xs (lacks_above n x.number xs (omega (arith, e)) r.0);
}
found_at n (x ∷ xs) (suc i) d r l e =
    let low : x.number < (get_or xs i d).number = all_at (λ y. x.number < y.number) xs i d (omega (arith, l)) r.0 in
    let more : IsFound n xs i d = found_at n xs i d r.1 (omega (arith, l)) e in
    let other : (x.number == n) ≡ false = ne_eqb x.number n (λ same. omega (arith, same, low, e)) in
    record {
      value = ap (λ b. cond b (Some x) (find (λ y. y.number == n) xs)) other ∙ more.value;
      left = ap (λ b. cond (not b) (x ∷ without n xs) (without n xs)) other ∙ ap (λ m. x ∷ m) more.left;
    }

-- whether there is one, by its place
pub has_is : (o : Option ℕ) (n : ℕ) (xs : List Element) → AreRising xs → IfSome o (λ i. i < length xs) → IfSome o (λ i. (d : Element) → (get_or xs i d).number ≡ n) → IfNone o (find (λ x. x.number == n) xs ≡ None) → is_some o ≡ is_some (find (λ x. x.number == n) xs)
has_is None n xs r within found none = sym (ap is_some none)
has_is (Some i) n [] r within found none = absurd (omega (arith, within))
has_is (Some i) n (x ∷ xs) r within found none = sym (ap is_some (found_at n (x ∷ xs) i x (rises_from (x ∷ xs) r) within (found x)).value)

-- the last one, by its place
pub last_at : (xs : List Element) (n : ℕ) (x d : Element) → n + 1 ≡ length xs → get_or xs n d ≡ x → last_of xs ≡ Some x
last_at [] n x d e is = absurd (omega (arith, e))
last_at (y ∷ []) zero x d e is = ap Some is
last_at (y ∷ []) (suc n) x d e is = absurd (omega (arith, e))
last_at (y ∷ z ∷ xs) zero x d e is = absurd (omega (arith, e))
last_at (y ∷ z ∷ xs) (suc n) x d e is = last_at (z ∷ xs) n x d (omega (arith, e)) is
