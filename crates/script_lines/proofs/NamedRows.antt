-- A row that was found by its name is there.
use Rattle.std.proofs.Common.{◌≡◌, ◌∙◌, sym, ℕ, List, Option, Some, None, ap, rules}
use Rattle.std.specs.Prelude.{IsSome}
use Rattle.name_table.specs.Rows.{Named, name_in}

is_there : (o : Option (List ℕ)) (word : List ℕ) → o ≡ Some word → IsSome o
is_there None word e = absurd (cc e)
is_there (Some x) word e = search rules

pub has_one : (rows all : List Named) (n : ℕ) (word : List ℕ) → rows ≡ all → name_in rows n ≡ Some word → IsSome (name_in all n)
has_one rows all n word e at = is_there (name_in all n) word (ap (λ (r : List Named). name_in r n) (sym e) ∙ at)
