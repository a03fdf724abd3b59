-- Pairs of a list, and tests of its elements.
use Rattle.std.proofs.Common.{◌≡◌, ℕ, ◌+◌, ◌<◌, Bool, true, false, ◌||◌, List, [], ◌∷◌, ◌++◌, zero, suc, take, drop, get_or, length, refl, sym, ap, subst, ◌∙◌, arith}
use Rattle.std.specs.Prelude.{All}
use Rattle.std.specs.List.{AllPairs, list_any}
use Rattle.std.proofs.lemmas.List.{take-append-drop, drop_more, take_more}
use Rattle.std.proofs.lemmas.List.Kept.{AllPairs-cons}
use Rattle.std.proofs.lemmas.List.Folds.{list_any-append}
use Rattle.std.proofs.lemmas.List.Elements.{All-nil, All-cons, All-head, All-tail, All-take, All-push, All-contains, Contains-push}

pub pairs-nil : {X : Type 0} (R : X → X → Type 0) → AllPairs R []
pairs-nil R = λ i j d h k. absurd (omega arith)

pub pairs-head : {X : Type 0} (R : X → X → Type 0) (x : X) (xs : List X) → AllPairs R (x ∷ xs) → All (R x) xs
pairs-head R x xs p = λ k d h. p 0 (suc k) d (omega arith) (omega arith)

pub pairs-tail : {X : Type 0} (R : X → X → Type 0) (x : X) (xs : List X) → AllPairs R (x ∷ xs) → AllPairs R xs
pairs-tail R x xs p = λ i j d h k. p (suc i) (suc j) d (omega arith) (omega arith)

pub pairs-one : {X : Type 0} (R : X → X → Type 0) (x : X) → AllPairs R (x ∷ [])
pairs-one R x = AllPairs-cons R x [] (All-nil (R x)) (pairs-nil R)

pub pairs-drop : {X : Type 0} (R : X → X → Type 0) (n : ℕ) (xs : List X) → AllPairs R xs → AllPairs R (drop n xs)
pairs-drop R zero xs p = p
pairs-drop R (suc n) [] p = p
pairs-drop R (suc n) (x ∷ xs) p = pairs-drop R n xs (pairs-tail R x xs p)

pub pairs-take : {X : Type 0} (R : X → X → Type 0) (n : ℕ) (xs : List X) → AllPairs R xs → AllPairs R (take n xs)
pairs-take R zero xs p = pairs-nil R
pairs-take R (suc n) [] p = p
pairs-take R (suc n) (x ∷ xs) p = AllPairs-cons R x (take n xs) (All-take (R x) n xs (pairs-head R x xs p)) (pairs-take R n xs (pairs-tail R x xs p))

pub pairs-push : {X : Type 0} (R : X → X → Type 0) (xs : List X) (y : X) → AllPairs R xs → All (λ x. R x y) xs → AllPairs R (xs ++ y ∷ [])
pairs-push R [] y p h = pairs-one R y
pairs-push R (x ∷ xs) y p h = AllPairs-cons R x (xs ++ y ∷ []) (All-push (R x) xs y (pairs-head R x xs p) (All-head (λ z. R z y) x xs h)) (pairs-push R xs y (pairs-tail R x xs p) (All-tail (λ z. R z y) x xs h))

-- what is left from a place on, with its first element
pub pairs-rest : {X : Type 0} (R : X → X → Type 0) (xs : List X) (i : ℕ) (d : X) → i < length xs → AllPairs R xs → All (R (get_or xs i d)) (drop (i + 1) xs)
pairs-rest R xs i d h p = pairs-head R (get_or xs i d) (drop (i + 1) xs) (subst (λ ys. AllPairs R ys) (drop_more xs i d h) (pairs-drop R i xs p))

pub pairs-last : {X : Type 0} (R : X → X → Type 0) (xs : List X) (y : X) → AllPairs R (xs ++ y ∷ []) → All (λ x. R x y) xs
pairs-last R [] y p = All-nil (λ x. R x y)
pairs-last R (x ∷ xs) y p = All-cons (λ z. R z y) x xs (All-contains (R x) (xs ++ y ∷ []) y (pairs-head R x (xs ++ y ∷ []) p) (Contains-push xs y)) (pairs-last R xs y (pairs-tail R x (xs ++ y ∷ []) p))

-- what comes before an element
pub pairs-earlier : {X : Type 0} (R : X → X → Type 0) (xs : List X) (i : ℕ) (d : X) → i < length xs → AllPairs R xs → All (λ x. R x (get_or xs i d)) (take i xs)
pairs-earlier R xs i d h p = pairs-last R (take i xs) (get_or xs i d) (subst (λ ys. AllPairs R ys) (take_more xs i d h) (pairs-take R (i + 1) xs p))

pub all-rest : {X : Type 0} (P : X → Type 0) (xs : List X) (i : ℕ) (d : X) → i < length xs → P (get_or xs i d) → All P (drop (i + 1) xs) → All P (drop i xs)
all-rest P xs i d h here after = subst (λ ys. All P ys) (sym (drop_more xs i d h)) (All-cons P (get_or xs i d) (drop (i + 1) xs) here after)

pub any_agree : {X : Type 0} (p q : X → Bool) (xs : List X) → All (λ x. p x ≡ q x) xs → list_any p xs ≡ list_any q xs
any_agree p q [] h = refl
any_agree p q (x ∷ xs) h = rw (All-head (λ y. p y ≡ q y) x xs h, any_agree p q xs (All-tail (λ y. p y ≡ q y) x xs h)) refl

-- a test of a list is one of its front and of the rest
pub any_split : {X : Type 0} (p : X → Bool) (n : ℕ) (xs : List X) → list_any p xs ≡ (list_any p (take n xs) || list_any p (drop n xs))
any_split p n xs = ap (list_any p) (sym (take-append-drop n xs)) ∙ list_any-append p (take n xs) (drop n xs)

or_false : (a : Bool) → (a || false) ≡ a
or_false true = refl
or_false false = refl

pub any_front : {X : Type 0} (p : X → Bool) (n : ℕ) (xs : List X) → list_any p (drop n xs) ≡ false → list_any p xs ≡ list_any p (take n xs)
any_front p n xs h = any_split p n xs ∙ ap (λ b. list_any p (take n xs) || b) h ∙ or_false (list_any p (take n xs))

pub any_back : {X : Type 0} (p : X → Bool) (n : ℕ) (xs : List X) → list_any p (take n xs) ≡ false → list_any p xs ≡ list_any p (drop n xs)
any_back p n xs h = any_split p n xs ∙ ap (λ b. b || list_any p (drop n xs)) h
