-- Histories: lists of calls with their answers, oldest first.
use Rattle.std.specs.Prelude.{◌≡◌, ℕ, ◌==◌, List, ◌++◌, filter}

-- the first history begins the second
abbrev pub Begins : {E : Type 0} → List E → List E → Type 0
Begins {E} early whole = (rest : List E) × (early ++ rest ≡ whole)

-- the entries whose call has this number
abbrev pub calls_of : {C A : Type 0} → (C → ℕ) → ℕ → List (C × A) → List (C × A)
calls_of number k = filter (λ e. number e.0 == k)
