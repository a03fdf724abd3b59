use Rattle.std.proofs.Common.{◌≡◌, ◌==◌, true, find, None}
use Rattle.input_queue.specs.Rows.{merged}
use Rattle.input_queue.proofs.Reading.{lower}
use Rattle.input_queue.proofs.rows.holder.Given as goal

abbrev pub invariant-loop-home : goal.invariant-loop-home
invariant-loop-home l = find (λ x. x.number == l.number) (lower (λ _. true) l.home (merged l.rows)) ≡ None
