-- The last of a list of items.
use Rattle.std.proofs.Common.{◌≡◌, ℕ, suc, ◌-◌, ◌<◌, get_or, sym, subst, List, [], ◌∷◌, ◌++◌, length, take, refl, ap, ◌∙◌, arith, length-append}
use Rattle.std.specs.Prelude.{slice_get, slice_set, Some}

set_seam : {A : Type 0} (below : List A) (item : A) (rest : List A) (a : A) → slice_set (below ++ item ∷ rest) (length below) a ≡ below ++ a ∷ rest
set_seam [] item rest a = refl
set_seam (x ∷ below) item rest a = ap (λ xs. x ∷ xs) (set_seam below item rest a)

-- the last replaced
pub set_only : {A : Type 0} (xs below : List A) (item a : A) (n : ℕ) → xs ≡ below ++ item ∷ [] → n ≡ length xs → slice_set xs (n - 1) a ≡ below ++ a ∷ []
set_only xs below item a n e h =
    let place : n - 1 ≡ length below = omega (arith, ap length e, length-append below (item ∷ [])) in
    ap (λ ys. slice_set ys (n - 1) a) e ∙ ap (λ k. slice_set (below ++ item ∷ []) k a) place ∙ set_seam below item [] a

-- a list that isn't empty has a last element
pub last_of : {A : Type 0} (xs : List A) → (xs ≡ [] → ⊥) → (below : List A) × (item : A) × (xs ≡ below ++ item ∷ [])
last_of [] h = absurd (h refl)
last_of (x ∷ []) h = ([], x, refl)
last_of (x ∷ y ∷ xs) h = let r = last_of (y ∷ xs) (λ e. absurd cc) in (x ∷ r.0, r.1, ap (λ ys. x ∷ ys) r.2)

pub take_seam : {A : Type 0} (below : List A) (item : A) → take (length below) (below ++ item ∷ []) ≡ below
take_seam [] item = refl
take_seam (x ∷ below) item = ap (λ xs. x ∷ xs) (take_seam below item)

-- the last taken away
pub popped : {A : Type 0} (xs below ys : List A) (item : A) (n : ℕ) → xs ≡ below ++ item ∷ [] → ys ≡ take (n - 1) xs → n ≡ length xs → ys ≡ below
popped xs below ys item n e r h =
    let place : n - 1 ≡ length below = omega (arith, ap length e, length-append below (item ∷ [])) in
    r ∙ ap (λ zs. take (n - 1) zs) e ∙ ap (λ k. take k (below ++ item ∷ [])) place ∙ take_seam below item

-- the last element by its place
pub last_at : {A : Type 0} (xs : List A) (d : A) → 0 < length xs → (below : List A) × (xs ≡ below ++ get_or xs (length xs - 1) d ∷ [])
last_at [] d h = absurd (omega (arith, h))
last_at (x ∷ []) d h = ([], refl)
last_at (x ∷ y ∷ xs) d h =
    let r = last_at (y ∷ xs) d (omega arith) in
    let on : length (x ∷ y ∷ xs) - 1 ≡ suc (length (y ∷ xs) - 1) = omega arith in
    (x ∷ r.0, ap (λ zs. x ∷ zs) r.1 ∙ ap (λ k. x ∷ (r.0 ++ get_or (x ∷ y ∷ xs) k d ∷ [])) (sym on))

-- a list has one last element
pub same_last : {A : Type 0} (below under : List A) (item other : A) → below ++ item ∷ [] ≡ under ++ other ∷ [] → item ≡ other
same_last [] [] item other e = cc
same_last [] (y ∷ under) item other e = absurd (omega (arith, ap length e, length-append under (other ∷ [])))
same_last (x ∷ below) [] item other e = absurd (omega (arith, ap length e, length-append below (item ∷ [])))
same_last (x ∷ below) (y ∷ under) item other e = let f : below ++ item ∷ [] ≡ under ++ other ∷ [] = cc in same_last below under item other f

-- what holds of it
pub last_only : {A : Type 0} (P : A → Type 0) (xs below : List A) (item : A) → xs ≡ below ++ item ∷ [] → P item → (under : List A) (other : A) → xs ≡ under ++ other ∷ [] → P other
last_only P xs below item e h under other f = subst P (same_last below under item other (sym e ∙ f)) h

get_seam : {A : Type 0} (below : List A) (item : A) → slice_get (below ++ item ∷ []) (length below) ≡ Some item
get_seam [] item = refl
get_seam (x ∷ below) item = get_seam below item

-- it stands at the last place
pub get_last : {A : Type 0} (xs below : List A) (item : A) (n : ℕ) → xs ≡ below ++ item ∷ [] → n ≡ length xs → slice_get xs (n - 1) ≡ Some item
get_last xs below item n e h =
    let place : n - 1 ≡ length below = omega (arith, ap length e, length-append below (item ∷ [])) in
    ap (λ ys. slice_get ys (n - 1)) e ∙ ap (λ k. slice_get (below ++ item ∷ []) k) place ∙ get_seam below item
