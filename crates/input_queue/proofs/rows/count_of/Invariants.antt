use Rattle.std.proofs.Common.{◌≡◌, length, min}
use Rattle.input_queue.specs.Rows.{has_home, merged}
use Rattle.input_queue.proofs.Reading.{lower}
use Rattle.input_queue.proofs.rows.count_of.Given as goal

abbrev pub invariant-loop-home : goal.invariant-loop-home
invariant-loop-home l = l.count ≡ min 512 (length (lower (has_home l.group) l.home (merged l.rows)))
