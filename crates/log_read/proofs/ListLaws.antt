-- Lists that are equal, and what holds of all that is in a list.
use Rattle.std.proofs.Common.{◌≡◌, ℕ, zero, suc, List, [], ◌∷◌, ◌++◌, length, refl, ap, ◌∙◌, take, drop, arith}
use Rattle.std.specs.Prelude.{map}
use Rattle.std.specs.List.{flat_map, AllByRecursion}

module _ {A : Type 0} where
  pub first_same : (x y : A) (xs ys : List A) → x ∷ xs ≡ y ∷ ys → x ≡ y
  first_same x y xs ys e = cc e

  pub rest_same : (x y : A) (xs ys : List A) → x ∷ xs ≡ y ∷ ys → xs ≡ ys
  rest_same x y xs ys e = cc e

  -- where the fronts are as long
  pub split_same : (xs ys a b : List A) → length xs ≡ length ys → xs ++ a ≡ ys ++ b → (xs ≡ ys) × (a ≡ b)
  split_same [] [] a b n e = (refl, e)
  split_same [] (y ∷ ys) a b n e = absurd (omega (arith, n))
  split_same (x ∷ xs) [] a b n e = absurd (omega (arith, n))
  split_same (x ∷ xs) (y ∷ ys) a b n e =
      let long : length xs ≡ length ys = omega (arith, n) in
      let more = split_same xs ys a b long (rest_same x y (xs ++ a) (ys ++ b) e) in
      (ap (λ (z : A). z ∷ xs) (first_same x y (xs ++ a) (ys ++ b) e) ∙ ap (λ (l : List A). y ∷ l) more.0, more.1)

module _ {A : Type 0} (P : A → Type 0) where
  pub all_append : (xs ys : List A) → AllByRecursion P xs → AllByRecursion P ys → AllByRecursion P (xs ++ ys)
  all_append [] ys h k = k
  all_append (x ∷ xs) ys h k = (h.0, all_append xs ys h.1 k)

  pub all_parts : (xs ys : List A) → AllByRecursion P (xs ++ ys) → AllByRecursion P xs × AllByRecursion P ys
  all_parts [] ys h = (tt, h)
  all_parts (x ∷ xs) ys h = let more = all_parts xs ys h.1 in ((h.0, more.0), more.1)

  pub all_push : (xs : List A) (y : A) → AllByRecursion P xs → P y → AllByRecursion P (xs ++ y ∷ [])
  all_push xs y h p = all_append xs (y ∷ []) h (p, tt)

  pub all_take : (n : ℕ) (xs : List A) → AllByRecursion P xs → AllByRecursion P (take n xs)
  all_take zero xs h = tt
  all_take (suc n) [] h = tt
  all_take (suc n) (x ∷ xs) h = (h.0, all_take n xs h.1)

  pub all_drop : (n : ℕ) (xs : List A) → AllByRecursion P xs → AllByRecursion P (drop n xs)
  all_drop zero xs h = h
  all_drop (suc n) [] h = tt
  all_drop (suc n) (x ∷ xs) h = all_drop n xs h.1

-- ---- lists of which each is read

pub same_length : {A B : Type 0} (f : A → B) (xs : List A) → length (map f xs) ≡ length xs
same_length f [] = refl
same_length f (x ∷ xs) = ap suc (same_length f xs)

pub read_take : {R A : Type 0} (read : R → A) (k : ℕ) (xs : List R) → map read (take k xs) ≡ take k (map read xs)
read_take read zero xs = refl
read_take read (suc k) [] = refl
read_take {A = A} read (suc k) (x ∷ xs) = ap (λ (l : List A). read x ∷ l) (read_take read k xs)

pub read_drop : {R A : Type 0} (read : R → A) (k : ℕ) (xs : List R) → map read (drop k xs) ≡ drop k (map read xs)
read_drop read zero xs = refl
read_drop read (suc k) [] = refl
read_drop read (suc k) (x ∷ xs) = read_drop read k xs

pub flat_read : {R A B : Type 0} (read : R → A) (f : A → List B) (xs : List R) → flat_map (λ (x : R). f (read x)) xs ≡ flat_map f (map read xs)
flat_read read f [] = refl
flat_read {B = B} read f (x ∷ xs) = ap (λ (l : List B). f (read x) ++ l) (flat_read read f xs)
