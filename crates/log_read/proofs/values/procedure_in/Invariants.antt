use Rattle.std.proofs.Common.{◌≡◌, drop}
use Rattle.std.specs.List.{position_from}
use Rattle.std.specs.Str.{bytes_eq}
use Rattle.log_read.proofs.values.procedure_in.Given as goal

abbrev pub invariant-loop-place : goal.invariant-loop-place
invariant-loop-place l = position_from (λ p. bytes_eq p.name l.word) l.place (drop l.place l.procedures) ≡ position_from (λ p. bytes_eq p.name l.word) 0 l.procedures
