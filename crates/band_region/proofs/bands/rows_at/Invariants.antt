use Rattle.band_region.proofs.Rows.{RowsSeen}
use Rattle.band_region.proofs.bands.rows_at.Given as goal

abbrev pub invariant-loop-count : goal.invariant-loop-count
invariant-loop-count l = RowsSeen l.rects l.y l.end l.count
