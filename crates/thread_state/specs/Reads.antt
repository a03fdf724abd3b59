-- How many messages a search from the front reads.
use Rattle.std.specs.Prelude.{if◌then◌else◌, ℕ, suc, Bool, List, [], ◌∷◌}

-- those up to the first that passes, or all where none does
abbrev pub reads : {A : Type 0} → (A → Bool) → List A → ℕ
reads test [] = 0
reads test (x ∷ xs) = if test x then 1 else suc (reads test xs)
