-- Lists that are turned round, and what is found in lists.
use Rattle.std.proofs.Common.{◌≡◌, ◌∙◌, Bool, true, false, cond, List, [], ◌∷◌, ◌++◌, map, reverse, Some, refl, sym, ap}
use Rattle.std.specs.Prelude.{◌&&◌, ◌||◌, filter, find, is_some}
use Rattle.std.specs.List.{AllByRecursion, list_any, list_all}
use Rattle.std.proofs.lemmas.List.{append-nil, map-append, reverse-append}
use Rattle.std.proofs.lemmas.List.Elements.{filter-append}
use Rattle.std.proofs.lemmas.List.Folds.{list_any-append, list_all-append}

-- the first comes last
rev_cons : {X : Type 0} (x : X) (xs : List X) → reverse (x ∷ xs) ≡ reverse xs ++ x ∷ []
rev_cons x xs = reverse-append (x ∷ []) xs

pub rev_more : {X : Type 0} (xs : List X) (x : X) → reverse (xs ++ x ∷ []) ≡ x ∷ reverse xs
rev_more xs x = reverse-append xs (x ∷ [])

swap_or : (a b : Bool) → (a || (b || false)) ≡ (b || a)
swap_or true true = refl
swap_or true false = refl
swap_or false true = refl
swap_or false false = refl

pub any_rev : {X : Type 0} (p : X → Bool) (xs : List X) → list_any p (reverse xs) ≡ list_any p xs
any_rev p [] = refl
any_rev p (x ∷ xs) = ap (list_any p) (rev_cons x xs) ∙ (list_any-append p (reverse xs) (x ∷ []) ∙ (ap (λ b. b || (p x || false)) (any_rev p xs) ∙ swap_or (list_any p xs) (p x)))

swap_and : (a b : Bool) → (a && (b && true)) ≡ (b && a)
swap_and true true = refl
swap_and true false = refl
swap_and false true = refl
swap_and false false = refl

pub all_rev : {X : Type 0} (p : X → Bool) (xs : List X) → list_all p (reverse xs) ≡ list_all p xs
all_rev p [] = refl
all_rev p (x ∷ xs) = ap (list_all p) (rev_cons x xs) ∙ (list_all-append p (reverse xs) (x ∷ []) ∙ (ap (λ b. b && (p x && true)) (all_rev p xs) ∙ swap_and (list_all p xs) (p x)))

one_kept : {X : Type 0} (p : X → Bool) (x : X) (xs : List X) → reverse (filter p xs) ++ filter p (x ∷ []) ≡ reverse (filter p (x ∷ xs))
one_kept {X = X} p x xs = pick (p x)
  where
    pick : (b : Bool) → reverse (filter p xs) ++ cond b (x ∷ []) [] ≡ reverse (cond b (x ∷ filter p xs) (filter p xs))
    pick true = sym (rev_cons x (filter p xs))
    pick false = append-nil (reverse (filter p xs))

pub filter_rev : {X : Type 0} (p : X → Bool) (xs : List X) → filter p (reverse xs) ≡ reverse (filter p xs)
filter_rev p [] = refl
filter_rev p (x ∷ xs) = ap (filter p) (rev_cons x xs) ∙ (filter-append p (reverse xs) (x ∷ []) ∙ (ap (λ l. l ++ filter p (x ∷ [])) (filter_rev p xs) ∙ one_kept p x xs))

pub map_rev : {X Y : Type 0} (f : X → Y) (xs : List X) → map f (reverse xs) ≡ reverse (map f xs)
map_rev f [] = refl
map_rev f (x ∷ xs) = ap (map f) (rev_cons x xs) ∙ (map-append f (reverse xs) (x ∷ []) ∙ (ap (λ l. l ++ f x ∷ []) (map_rev f xs) ∙ sym (rev_cons (f x) (map f xs))))

-- something is found exactly where something passes
pub found_any : {X : Type 0} (p : X → Bool) (xs : List X) → is_some (find p xs) ≡ list_any p xs
found_any p [] = refl
found_any {X = X} p (x ∷ xs) = pick (found_any p xs) (p x)
  where
    pick : is_some (find p xs) ≡ list_any p xs → (b : Bool) → is_some (cond b (Some x) (find p xs)) ≡ (b || list_any p xs)
    pick rest true = refl
    pick rest false = rest

or_last : (a b : Bool) → b ≡ true → (a || b) ≡ true
or_last true b g = refl
or_last false b g = g

-- what is found and passes another test too
pub any_found : {X : Type 0} (p q : X → Bool) (xs : List X) (x : X) → find p xs ≡ Some x → q x ≡ true → list_any q xs ≡ true
any_found p q [] x e h = absurd cc
any_found {X = X} p q (y ∷ xs) x e h = pick (λ k. any_found p q xs x k h) (p y) e
  where
    pick : (find p xs ≡ Some x → list_any q xs ≡ true) → (b : Bool) → cond b (Some y) (find p xs) ≡ Some x → (q y || list_any q xs) ≡ true
    pick rest true k = let same : y ≡ x = cc in ap (λ b. b || list_any q xs) (ap q same ∙ h)
    pick rest false k = or_last (q y) (list_any q xs) (rest k)

-- maps that agree on what is there
pub map_agree : {X Y : Type 0} (f g : X → Y) (P : X → Type 0) → ((x : X) → P x → f x ≡ g x) → (xs : List X) → AllByRecursion P xs → map f xs ≡ map g xs
map_agree f g P same [] h = refl
map_agree f g P same (x ∷ xs) h = ap (λ y. y ∷ map f xs) (same x h.0) ∙ ap (λ l. g x ∷ l) (map_agree f g P same xs h.1)
