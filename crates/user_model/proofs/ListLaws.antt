-- What holds of each element of a list, and lists of which a filter takes nothing out.
use Rattle.std.proofs.Common.{◌≡◌, Bool, true, false, cond, List, [], ◌∷◌, ◌++◌, Option, Some, refl, ap, ◌∙◌, sym, subst}
use Rattle.std.proofs.lemmas.Bool.{false≢true}
use Rattle.std.specs.Prelude.{filter, find, ◌||◌, ◌&&◌}
use Rattle.std.specs.List.{AllByRecursion}

pub or-false : (b : Bool) → (b || false) ≡ b
or-false true = refl
or-false false = refl

-- what follows from a fact that each has, each has
pub all_weaker : {X : Type 0} (P Q : X → Type 0) → ((x : X) → P x → Q x) → (xs : List X) → AllByRecursion P xs → AllByRecursion Q xs
all_weaker P Q f [] h = tt
all_weaker P Q f (x ∷ xs) h = (f x h.0, all_weaker P Q f xs h.1)

pub all_append : {X : Type 0} (P : X → Type 0) (xs ys : List X) → AllByRecursion P xs → AllByRecursion P ys → AllByRecursion P (xs ++ ys)
all_append P [] ys h k = k
all_append P (x ∷ xs) ys h k = (h.0, all_append P xs ys h.1 k)

pub all_filter : {X : Type 0} (P : X → Type 0) (test : X → Bool) (xs : List X) → AllByRecursion P xs → AllByRecursion P (filter test xs)
all_filter P test [] h = tt
all_filter P test (x ∷ xs) h = elim (test x) as (λ b. AllByRecursion P (cond b (x ∷ filter test xs) (filter test xs))) [ true ↦ (h.0, all_filter P test xs h.1) | false ↦ all_filter P test xs h.1 ]

pub all_one : {X : Type 0} (P : X → Type 0) (b : Bool) (x : X) → (b ≡ true → P x) → AllByRecursion P (cond b (x ∷ []) [])
all_one P true x h = (h refl, tt)
all_one P false x h = tt

-- tests that agree take out the same
pub filter_same : {X : Type 0} (f g : X → Bool) → ((x : X) → f x ≡ g x) → (xs : List X) → filter f xs ≡ filter g xs
filter_same f g e [] = refl
filter_same f g e (x ∷ xs) = ap (λ b. cond b (x ∷ filter f xs) (filter f xs)) (e x) ∙ ap (λ l. cond (g x) (x ∷ l) l) (filter_same f g e xs)

-- a test that each passes takes nothing out
pub filter_all : {X : Type 0} (test : X → Bool) (xs : List X) → AllByRecursion (λ x. test x ≡ true) xs → filter test xs ≡ xs
filter_all test [] h = refl
filter_all test (x ∷ xs) h = ap (λ b. cond b (x ∷ filter test xs) (filter test xs)) h.0 ∙ ap (λ l. x ∷ l) (filter_all test xs h.1)

pub filter_every : {X : Type 0} (test : X → Bool) → ((x : X) → test x ≡ true) → (xs : List X) → filter test xs ≡ xs
filter_every test h [] = refl
filter_every test h (x ∷ xs) = ap (λ b. cond b (x ∷ filter test xs) (filter test xs)) (h x) ∙ ap (λ l. x ∷ l) (filter_every test h xs)

-- what is found is one of the list
found_here : {X : Type 0} (P : X → Type 0) (b : Bool) (x y : X) (o : Option X) → P x → (o ≡ Some y → P y) → cond b (Some x) o ≡ Some y → P y
found_here P true x y o p rest e = let same : x ≡ y = cc in subst P same p
found_here P false x y o p rest e = rest e

pub all_found : {X : Type 0} (P : X → Type 0) (test : X → Bool) (xs : List X) (y : X) → AllByRecursion P xs → find test xs ≡ Some y → P y
all_found P test [] y h e = absurd cc
all_found P test (x ∷ xs) y h e = found_here P (test x) x y (find test xs) h.0 (λ e. all_found P test xs y h.1 e) e

-- what follows from a fact that each has and from passing the test, each has that is kept
pub all_kept : {X : Type 0} (P Q : X → Type 0) (test : X → Bool) → ((x : X) → test x ≡ true → P x → Q x) → (xs : List X) → AllByRecursion P xs → AllByRecursion Q (filter test xs)
all_kept P Q test f [] h = tt
all_kept P Q test f (x ∷ xs) h = here (test x) refl (all_kept P Q test f xs h.1)
  where
    here : (b : Bool) → test x ≡ b → AllByRecursion Q (filter test xs) → AllByRecursion Q (cond b (x ∷ filter test xs) (filter test xs))
    here true e rest = (f x e h.0, rest)
    here false e rest = rest

-- tests that agree where a fact holds take out the same
pub filter_agree : {X : Type 0} (P : X → Type 0) (f g : X → Bool) → ((x : X) → P x → f x ≡ g x) → (xs : List X) → AllByRecursion P xs → filter f xs ≡ filter g xs
filter_agree P f g e [] h = refl
filter_agree P f g e (x ∷ xs) h = ap (λ b. cond b (x ∷ filter f xs) (filter f xs)) (e x h.0) ∙ ap (λ l. cond (g x) (x ∷ l) l) (filter_agree P f g e xs h.1)

-- a test that none passes takes all out
pub filter_none : {X : Type 0} (test : X → Bool) → ((x : X) → test x ≡ false) → (xs : List X) → filter test xs ≡ []
filter_none test h [] = refl
filter_none test h (x ∷ xs) = ap (λ b. cond b (x ∷ filter test xs) (filter test xs)) (h x) ∙ filter_none test h xs

-- one test after another is both
pub filter_twice : {X : Type 0} (f g : X → Bool) (xs : List X) → filter f (filter g xs) ≡ filter (λ x. f x && g x) xs
filter_twice f g [] = refl
filter_twice f g (x ∷ xs) = pick (g x) (f x) refl (filter_twice f g xs)
  where
    pick : (b c : Bool) → f x ≡ c → filter f (filter g xs) ≡ filter (λ x. f x && g x) xs → filter f (cond b (x ∷ filter g xs) (filter g xs)) ≡ cond (c && b) (x ∷ filter (λ x. f x && g x) xs) (filter (λ x. f x && g x) xs)
    pick true true e rest = rw e (ap (λ l. x ∷ l) rest)
    pick true false e rest = rw e rest
    pick false true e rest = rest
    pick false false e rest = rest

-- the first that passes stays the first where it is kept
pub find_kept : {X : Type 0} (test keep : X → Bool) (xs ys : List X) (x : X) → find test xs ≡ Some x → keep x ≡ true → find test (filter keep xs ++ ys) ≡ Some x
find_kept test keep [] ys x e k = absurd cc
find_kept test keep (y ∷ xs) ys x e k = here (test y) (keep y) refl refl e (find_kept test keep xs ys x)
  where
    here : (b c : Bool) → test y ≡ b → keep y ≡ c → cond b (Some y) (find test xs) ≡ Some x → (find test xs ≡ Some x → keep x ≡ true → find test (filter keep xs ++ ys) ≡ Some x) → find test (cond c (y ∷ filter keep xs) (filter keep xs) ++ ys) ≡ Some x
    here true true is_test is_kept f rest = rw is_test f
    here true false is_test is_kept f rest = let same : y ≡ x = cc in absurd (false≢true (sym is_kept ∙ ap keep same ∙ k))
    here false true is_test is_kept f rest = rw is_test (rest f k)
    here false false is_test is_kept f rest = rest f k
