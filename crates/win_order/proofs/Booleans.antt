-- Tests of all elements of a list, and of one.
use Rattle.std.proofs.Common.{◌≡◌, ◌∙◌, List, [], ◌∷◌, Bool, true, false, cond, not, ◌&&◌, ◌||◌, map, refl, sym, ap}
use Rattle.std.specs.List.{filter, list_any, list_all}
use Rattle.std.specs.List.Sorted.{IsPermutation}
use Rattle.std.proofs.lemmas.Bool.{false≢true}
use Rattle.std.proofs.lemmas.List.Sorted.{All-permutation}
use Rattle.std.proofs.lemmas.List.Sums.{AllPass-from_list_all, list_all-from_AllPass}

pub and_left : (a b : Bool) → (a && b) ≡ true → a ≡ true
and_left true b e = refl
and_left false b e = e

pub and_right : (a b : Bool) → (a && b) ≡ true → b ≡ true
and_right true b e = e
and_right false b e = absurd (false≢true e)

pub and_true : (a b : Bool) → a ≡ true → b ≡ true → (a && b) ≡ true
and_true true b e f = f
and_true false b e f = e

pub or_rest : (a b : Bool) → (a || b) ≡ true → a ≡ false → b ≡ true
or_rest true b e f = absurd (false≢true (sym f))
or_rest false b e f = e

pub or_left_false : (a b : Bool) → (a || b) ≡ false → a ≡ false
or_left_false true b e = e
or_left_false false b e = refl

pub or_right_false : (a b : Bool) → (a || b) ≡ false → b ≡ false
or_right_false true b e = absurd (false≢true (sym e))
or_right_false false b e = e

pub or_first : (a b : Bool) → a ≡ true → (a || b) ≡ true
or_first true b e = refl
or_first false b e = absurd (false≢true e)

pub or_second : (a b : Bool) → b ≡ true → (a || b) ≡ true
or_second true b e = refl
or_second false b e = e

pub all_always : {X : Type 0} (p : X → Bool) → ((x : X) → p x ≡ true) → (xs : List X) → list_all p xs ≡ true
all_always p f [] = refl
all_always p f (x ∷ xs) = and_true (p x) (list_all p xs) (f x) (all_always p f xs)

pub all_one : {X : Type 0} (p q : X → Bool) → ((x : X) → p x ≡ true → q x ≡ true) → (xs : List X) → list_all p xs ≡ true → list_all q xs ≡ true
all_one p q f [] a = refl
all_one p q f (x ∷ xs) a = and_true (q x) (list_all q xs) (f x (and_left (p x) (list_all p xs) a)) (all_one p q f xs (and_right (p x) (list_all p xs) a))

pub all_both : {X : Type 0} (p q r : X → Bool) → ((x : X) → p x ≡ true → q x ≡ true → r x ≡ true) → (xs : List X) → list_all p xs ≡ true → list_all q xs ≡ true → list_all r xs ≡ true
all_both p q r f [] a b = refl
all_both p q r f (x ∷ xs) a b = and_true (r x) (list_all r xs) (f x (and_left (p x) (list_all p xs) a) (and_left (q x) (list_all q xs) b)) (all_both p q r f xs (and_right (p x) (list_all p xs) a) (and_right (q x) (list_all q xs) b))

witness_by : {X : Type 0} (p q : X → Bool) (x : X) (b rest : Bool) → p x ≡ b → (b || rest) ≡ true → q x ≡ true → (rest ≡ true → (y : X) × (p y ≡ true) × (q y ≡ true)) → (y : X) × (p y ≡ true) × (q y ≡ true)
witness_by p q x true rest is e h ih = (x, is, h)
witness_by p q x false rest is e h ih = ih e

-- one that passes the first test passes the second too
pub witness : {X : Type 0} (p q : X → Bool) (xs : List X) → list_any p xs ≡ true → list_all q xs ≡ true → (y : X) × (p y ≡ true) × (q y ≡ true)
witness p q [] e a = absurd (false≢true e)
witness p q (x ∷ xs) e a = witness_by p q x (p x) (list_any p xs) refl e (and_left (q x) (list_all q xs) a) (λ r. witness p q xs r (and_right (q x) (list_all q xs) a))

pub all_permuted : {X : Type 0} (p : X → Bool) (xs ys : List X) → IsPermutation xs ys → list_all p xs ≡ true → list_all p ys ≡ true
all_permuted p xs ys moved a = list_all-from_AllPass p ys (All-permutation (λ x. p x ≡ true) xs ys moved (AllPass-from_list_all p xs a))

pub or_other : (a b : Bool) → (a || b) ≡ true → b ≡ false → a ≡ true
or_other true b e f = refl
or_other false b e f = absurd (false≢true (sym f ∙ e))

cond_true : {X : Type 0} (b : Bool) (x y : X) → b ≡ true → cond b x y ≡ x
cond_true true x y e = refl
cond_true false x y e = absurd (false≢true e)

cond_false : {X : Type 0} (b : Bool) (x y : X) → b ≡ false → cond b x y ≡ y
cond_false true x y e = absurd (false≢true (sym e))
cond_false false x y e = refl

pub keep_first : {X : Type 0} (p : X → Bool) (x : X) (xs : List X) → p x ≡ true → filter p (x ∷ xs) ≡ x ∷ filter p xs
keep_first p x xs e = cond_true (p x) (x ∷ filter p xs) (filter p xs) e

pub skip_first : {X : Type 0} (p : X → Bool) (x : X) (xs : List X) → p x ≡ false → filter p (x ∷ xs) ≡ filter p xs
skip_first p x xs e = cond_false (p x) (x ∷ filter p xs) (filter p xs) e

pub or_both : (a b c d : Bool) → (a ≡ true → b ≡ true) → (c ≡ true → d ≡ true) → (a || c) ≡ true → (b || d) ≡ true
or_both true b c d f g e = or_first b d (f refl)
or_both false b c d f g e = or_second b d (g e)

pub any_one : {X : Type 0} (p q : X → Bool) → ((x : X) → p x ≡ true → q x ≡ true) → (xs : List X) → list_any p xs ≡ true → list_any q xs ≡ true
any_one p q f [] e = absurd (false≢true e)
any_one p q f (x ∷ xs) e = or_both (p x) (q x) (list_any p xs) (list_any q xs) (f x) (any_one p q f xs) e

all_kept_by : {X : Type 0} (p keep : X → Bool) (x : X) (xs : List X) (b : Bool) → keep x ≡ b → p x ≡ true → list_all p (filter keep xs) ≡ true → list_all p (filter keep (x ∷ xs)) ≡ true
all_kept_by p keep x xs true is a ih = ap (λ l. list_all p l) (keep_first keep x xs is) ∙ and_true (p x) (list_all p (filter keep xs)) a ih
all_kept_by p keep x xs false is a ih = ap (λ l. list_all p l) (skip_first keep x xs is) ∙ ih

pub all_kept : {X : Type 0} (p keep : X → Bool) (xs : List X) → list_all p xs ≡ true → list_all p (filter keep xs) ≡ true
all_kept p keep [] a = refl
all_kept p keep (x ∷ xs) a = all_kept_by p keep x xs (keep x) refl (and_left (p x) (list_all p xs) a) (all_kept p keep xs (and_right (p x) (list_all p xs) a))

all_filtered_by : {X : Type 0} (p : X → Bool) (x : X) (xs : List X) (b : Bool) → p x ≡ b → list_all p (filter p xs) ≡ true → list_all p (filter p (x ∷ xs)) ≡ true
all_filtered_by p x xs true is ih = ap (λ l. list_all p l) (keep_first p x xs is) ∙ and_true (p x) (list_all p (filter p xs)) is ih
all_filtered_by p x xs false is ih = ap (λ l. list_all p l) (skip_first p x xs is) ∙ ih

pub all_filtered : {X : Type 0} (p : X → Bool) (xs : List X) → list_all p (filter p xs) ≡ true
all_filtered p [] = refl
all_filtered p (x ∷ xs) = all_filtered_by p x xs (p x) refl (all_filtered p xs)

filter_over_by : {X Y : Type 0} (f : X → Y) (q : Y → Bool) (x : X) (xs : List X) (b : Bool) → q (f x) ≡ b → filter q (map f xs) ≡ map f (filter (λ y. q (f y)) xs) → filter q (map f (x ∷ xs)) ≡ map f (filter (λ y. q (f y)) (x ∷ xs))
filter_over_by f q x xs true is ih = keep_first q (f x) (map f xs) is ∙ (ap (λ l. f x ∷ l) ih ∙ sym (ap (map f) (keep_first (λ y. q (f y)) x xs is)))
filter_over_by f q x xs false is ih = skip_first q (f x) (map f xs) is ∙ (ih ∙ sym (ap (map f) (skip_first (λ y. q (f y)) x xs is)))

-- what passes of the images are the images of what passes
pub filter_over : {X Y : Type 0} (f : X → Y) (q : Y → Bool) (xs : List X) → filter q (map f xs) ≡ map f (filter (λ y. q (f y)) xs)
filter_over f q [] = refl
filter_over f q (x ∷ xs) = filter_over_by f q x xs (q (f x)) refl (filter_over f q xs)

pub any_over : {X Y : Type 0} (f : X → Y) (q : Y → Bool) (xs : List X) → list_any q (map f xs) ≡ list_any (λ y. q (f y)) xs
any_over f q [] = refl
any_over f q (x ∷ xs) = ap (λ b. q (f x) || b) (any_over f q xs)

pub keep_all : {X : Type 0} (p : X → Bool) (xs : List X) → list_all p xs ≡ true → filter p xs ≡ xs
keep_all p [] a = refl
keep_all p (x ∷ xs) a = keep_first p x xs (and_left (p x) (list_all p xs) a) ∙ ap (λ l. x ∷ l) (keep_all p xs (and_right (p x) (list_all p xs) a))

pub skip_all : {X : Type 0} (p : X → Bool) (xs : List X) → list_all (λ x. not (p x)) xs ≡ true → filter p xs ≡ []
skip_all p [] a = refl
skip_all p (x ∷ xs) a = skip_first p x xs (no_test (p x) (and_left (not (p x)) (list_all (λ y. not (p y)) xs) a)) ∙ skip_all p xs (and_right (not (p x)) (list_all (λ y. not (p y)) xs) a)
  where
    no_test : (b : Bool) → not b ≡ true → b ≡ false
    no_test true e = sym e
    no_test false e = refl
