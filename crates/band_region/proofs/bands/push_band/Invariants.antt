use Rattle.band_region.proofs.Rows.{BandGrown}
use Rattle.band_region.proofs.bands.push_band.Given as goal

abbrev pub invariant-loop-span : goal.invariant-loop-span
invariant-loop-span l = BandGrown l.initial.rects.items l.row l.top l.bottom l.span-index l.rects.items
