-- What holds of each of a list.
use Rattle.std.proofs.Common.{◌≡◌, inl, inr, ℕ, ◌<◌, suc, zero, List, [], ◌∷◌, ◌++◌, length, get_or, set, cond, map, filter, Bool, true, false, ◌∙◌, refl, sym, ap, subst, arith}
use Rattle.std.specs.List.{flat_map, AllByRecursion}
use Rattle.std.proofs.lemmas.Bool.{cases_Bool}

-- of the one at a place
pub all_at : {A : Type 0} (P : A → Type 0) (xs : List A) (k : ℕ) (x : A) → AllByRecursion P xs → k < length xs → x ≡ get_or xs k x → P x
all_at P [] k x h lt is = absurd (omega (arith, lt))
all_at P (y ∷ xs) zero x h lt is = subst P (sym is) h.0
all_at P (y ∷ xs) (suc k) x h lt is = all_at P xs k x h.1 (omega (arith, lt)) is

-- what follows from it
pub all_so : {A : Type 0} (P Q : A → Type 0) → ((x : A) → P x → Q x) → (xs : List A) → AllByRecursion P xs → AllByRecursion Q xs
all_so P Q f [] h = tt
all_so P Q f (x ∷ xs) h = (f x h.0, all_so P Q f xs h.1)

pub all_both : {A : Type 0} (P Q : A → Type 0) (xs : List A) → AllByRecursion P xs → AllByRecursion Q xs → AllByRecursion (λ x. P x × Q x) xs
all_both P Q [] h k = tt
all_both P Q (x ∷ xs) h k = ((h.0, k.0), all_both P Q xs h.1 k.1)

-- of those that a test picks
pub all_filter : {A : Type 0} (P : A → Type 0) (test : A → Bool) (xs : List A) → AllByRecursion P xs → AllByRecursion P (filter test xs)
all_filter P test [] h = tt
all_filter P test (x ∷ xs) h = elim (cases_Bool (test x)) [
  | inl k ↦ rw (k, filter) (h.0, all_filter P test xs h.1)
  | inr k ↦ rw (k, filter) (all_filter P test xs h.1)
]

pub all_picked : {A : Type 0} (P : A → Type 0) (test : A → Bool) (xs : List A) → AllByRecursion (λ x. test x ≡ true → P x) xs → AllByRecursion P (filter test xs)
all_picked P test [] h = tt
all_picked P test (x ∷ xs) h = elim (cases_Bool (test x)) [
  | inl k ↦ rw (k, filter) (h.0 k, all_picked P test xs h.1)
  | inr k ↦ rw (k, filter) (all_picked P test xs h.1)
]

pub all_of_picked : {A : Type 0} (P : A → Type 0) (test : A → Bool) (xs : List A) → AllByRecursion P (filter test xs) → AllByRecursion (λ x. test x ≡ true → P x) xs
all_of_picked P test [] h = tt
all_of_picked P test (x ∷ xs) h = elim (cases_Bool (test x)) [
  | inl k ↦ (λ _. (kept k).0, all_of_picked P test xs (kept k).1)
  | inr k ↦ (λ e. absurd (cc (e, k)), all_of_picked P test xs (passed k))
]
  where
    kept : test x ≡ true → AllByRecursion P (x ∷ filter test xs)
    kept k = subst (λ (b : Bool). AllByRecursion P (cond b (x ∷ filter test xs) (filter test xs))) k h

    passed : test x ≡ false → AllByRecursion P (filter test xs)
    passed k = subst (λ (b : Bool). AllByRecursion P (cond b (x ∷ filter test xs) (filter test xs))) k h

pub all_append : {A : Type 0} (P : A → Type 0) (xs ys : List A) → AllByRecursion P xs → AllByRecursion P ys → AllByRecursion P (xs ++ ys)
all_append P [] ys h k = k
all_append P (x ∷ xs) ys h k = (h.0, all_append P xs ys h.1 k)

pub all_flat : {A B : Type 0} (P : A → Type 0) (Q : B → Type 0) (g : A → List B) → ((x : A) → P x → AllByRecursion Q (g x)) → (xs : List A) → AllByRecursion P xs → AllByRecursion Q (flat_map g xs)
all_flat P Q g each [] h = tt
all_flat P Q g each (x ∷ xs) h = all_append Q (g x) (flat_map g xs) (each x h.0) (all_flat P Q g each xs h.1)

pub all_map : {A B : Type 0} (P : A → Type 0) (Q : B → Type 0) (f : A → B) → ((x : A) → P x → Q (f x)) → (xs : List A) → AllByRecursion P xs → AllByRecursion Q (map f xs)
all_map P Q f each [] h = tt
all_map P Q f each (x ∷ xs) h = (each x h.0, all_map P Q f each xs h.1)

-- with another in the place of one
pub all_set : {A : Type 0} (P : A → Type 0) (xs : List A) (i : ℕ) (x : A) → AllByRecursion P xs → P x → AllByRecursion P (set xs i x)
all_set P [] i x h new = tt
all_set P (y ∷ xs) zero x h new = (new, h.1)
all_set P (y ∷ xs) (suc i) x h new = (h.0, all_set P xs i x h.1 new)

-- tests that agree pick the same
pub filter_alike : {A : Type 0} (p q : A → Bool) → ((x : A) → p x ≡ q x) → (xs : List A) → filter p xs ≡ filter q xs
filter_alike p q h [] = refl
filter_alike p q h (x ∷ xs) = ap (λ b. cond b (x ∷ filter p xs) (filter p xs)) (h x) ∙ ap (λ ys. cond (q x) (x ∷ ys) ys) (filter_alike p q h xs)
