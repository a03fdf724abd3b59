-- How many elements of a list pass a test.
use Rattle.std.proofs.Common.{◌≡◌, ◌≤◌, ◌+◌, Bool, true, false, List, [], ◌∷◌, refl, arith}
use Rattle.std.specs.Prelude.{All, count_by, cond, filter}
use Rattle.std.proofs.lemmas.List.Sums.{sum_by-cons}
use Rattle.std.proofs.lemmas.List.Elements.{All-nil, All-cons, All-head, All-tail}

count_by-cons : {X : Type 0} (p : X → Bool) (x : X) (xs : List X) → count_by p (x ∷ xs) ≡ cond (p x) 1 0 + count_by p xs
count_by-cons p x xs = sum_by-cons (λ y. cond (p y) 1 0) x xs

le_cond : (a b : Bool) → (a ≡ true → b ≡ true) → cond a 1 0 ≤ cond b 1 0
le_cond true b h = grind (arith, h refl)
le_cond false b h = grind arith

-- a weaker test is passed no less often
pub count-le : {X : Type 0} (p q : X → Bool) (xs : List X) → ((x : X) → p x ≡ true → q x ≡ true) → count_by p xs ≤ count_by q xs
count-le p q [] h = grind arith
count-le p q (x ∷ xs) h = omega (arith, count_by-cons p x xs, count_by-cons q x xs, le_cond (p x) (q x) (h x), count-le p q xs h)

same_cond : (a b : Bool) → (a ≡ true → b ≡ true) → cond b 1 0 ≤ cond a 1 0 → a ≡ b
same_cond true b h k = grind (arith, h refl)
same_cond false true h k = absurd (omega arith)
same_cond false false h k = refl

-- a weaker test that is passed no more often is the same test there
pub count-same : {X : Type 0} (p q : X → Bool) (xs : List X) → ((x : X) → p x ≡ true → q x ≡ true) → count_by q xs ≤ count_by p xs → All (λ x. p x ≡ q x) xs
count-same p q [] h k = All-nil (λ x. p x ≡ q x)
count-same p q (x ∷ xs) h k =
    let a = count_by-cons p x xs in
    let b = count_by-cons q x xs in
    let c = le_cond (p x) (q x) (h x) in
    let d = count-le p q xs h in
    All-cons (λ y. p y ≡ q y) x xs (same_cond (p x) (q x) (h x) (omega arith)) (count-same p q xs h (omega arith))

-- tests that are the same on a list keep the same elements of it
pub filter-same : {X : Type 0} (p q : X → Bool) (xs : List X) → All (λ x. p x ≡ q x) xs → filter p xs ≡ filter q xs
filter-same p q [] h = refl
filter-same p q (x ∷ xs) h = rw (All-head (λ y. p y ≡ q y) x xs h, filter-same p q xs (All-tail (λ y. p y ≡ q y) x xs h)) refl

kept_at : {X : Type 0} (p : X → Bool) (x : X) (xs : List X) (b : Bool) → p x ≡ b → cond b (x ∷ filter p xs) (filter p xs) ≡ [] → (filter p xs ≡ [] → All (λ y. p y ≡ false) xs) → All (λ y. p y ≡ false) (x ∷ xs)
kept_at p x xs true e h k = absurd (grind arith)
kept_at p x xs false e h k = All-cons (λ y. p y ≡ false) x xs e (k h)

-- where nothing is kept, nothing passes
pub none_kept : {X : Type 0} (p : X → Bool) (xs : List X) → filter p xs ≡ [] → All (λ x. p x ≡ false) xs
none_kept p [] h = All-nil (λ x. p x ≡ false)
none_kept p (x ∷ xs) h = kept_at p x xs (p x) refl h (none_kept p xs)

kept_all : {X : Type 0} (p : X → Bool) (P : X → Type 0) (x : X) (xs : List X) (b : Bool) → p x ≡ b → All P (cond b (x ∷ filter p xs) (filter p xs)) → (All P (filter p xs) → All (λ y. p y ≡ true → P y) xs) → All (λ y. p y ≡ true → P y) (x ∷ xs)
kept_all p P x xs true e h k = All-cons (λ y. p y ≡ true → P y) x xs (λ i. All-head P x (filter p xs) h) (k (All-tail P x (filter p xs) h))
kept_all p P x xs false e h k = All-cons (λ y. p y ≡ true → P y) x xs (λ i. absurd (grind arith)) (k h)

-- what holds of all that is kept holds of all that passes
pub passing_all : {X : Type 0} (p : X → Bool) (P : X → Type 0) (xs : List X) → All P (filter p xs) → All (λ y. p y ≡ true → P y) xs
passing_all p P [] h = All-nil (λ y. p y ≡ true → P y)
passing_all p P (x ∷ xs) h = kept_all p P x xs (p x) refl h (passing_all p P xs)
