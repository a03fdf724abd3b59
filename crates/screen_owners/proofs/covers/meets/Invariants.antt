use Rattle.std.proofs.Common.{◌≡◌, take, false}
use Rattle.std.specs.Prelude.{◌&&◌}
use Rattle.win_num.specs.declared.shapes.Point.{Point}
use Rattle.band_region.specs.Regions.{rect_has, region_has}
use Rattle.screen_owners.proofs.covers.meets.Given as goal

abbrev pub invariant-loop-x : goal.invariant-loop-x
invariant-loop-x l = (p : Point) → (region_has (take l.x-index l.rects) p && rect_has l.r p) ≡ false
