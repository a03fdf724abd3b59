use Rattle.std.specs.Prelude.{pos, ◌-ℤ◌}
use borrow.Author.Differences.{up}
use Rattle.band_region.proofs.RowSweep.{RowSwept}
use Rattle.band_region.proofs.columns.mixed_row.Given as goal

abbrev pub invariant-loop-x : goal.invariant-loop-x
invariant-loop-x l = RowSwept l.mix l.first l.second l.ones l.others l.spans.items l.x

abbrev pub decreases-loop-x : goal.decreases-loop-x
decreases-loop-x l = up (pos 8388608 -ℤ l.x)
