use Rattle.std.proofs.Common.{◌≡◌, false, take}
use Rattle.band_region.specs.Regions.{region_has}
use Rattle.band_region.proofs.covering.rect_at.Given as goal

abbrev pub invariant-loop-r : goal.invariant-loop-r
invariant-loop-r l = region_has (take l.r-index l.rects) l.p ≡ false
