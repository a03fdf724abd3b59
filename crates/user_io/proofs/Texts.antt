-- Pieces that were added one after the other.
use Rattle.std.proofs.Common.{ℕ, List, [], ◌++◌, ◌∙◌, ap, append_assoc, append-nil, sym}
use Rattle.user_io.specs.Text.{Adds}

pub two : {o x y a b : List ℕ} → Adds o x a → Adds x y b → Adds o y (a ++ b)
two {o} {x} {y} {a} {b} p q = record { is = q.is ∙ ap (λ (l : List ℕ). l ++ b) p.is ∙ append_assoc o a b }

pub none : (o : List ℕ) → Adds o o []
none o = record { is = sym (append-nil o) }
