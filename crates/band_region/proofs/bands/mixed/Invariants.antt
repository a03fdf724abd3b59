use Rattle.std.specs.Prelude.{pos, ◌-ℤ◌}
use borrow.Author.Differences.{up}
use Rattle.band_region.proofs.BandSweep.{Swept}
use Rattle.band_region.proofs.bands.mixed.Given as goal

abbrev pub invariant-loop-y : goal.invariant-loop-y
invariant-loop-y l = Swept l.mix l.first l.second l.ones l.others l.rects.items l.row.items l.top l.y

abbrev pub decreases-loop-y : goal.decreases-loop-y
decreases-loop-y l = up (pos 8388608 -ℤ l.y)
