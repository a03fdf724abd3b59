use Rattle.std.proofs.Common.{◌∙◌, w32, FitsSigned}
use Rattle.std.proofs.lemmas.Int.{to_z-of_z}
use Rattle.band_region.proofs.Sets.{region_at}
use Rattle.band_region.proofs.Shapes.{moved_at, moved_has, moved_banded}
use Rattle.band_region.proofs.region.Region.shifted.Goals as goal

pub invariant_of-result : goal.invariant_of-result
invariant_of-result c =
    let a = c.as_slice.ensures.value ∙ c.self.view_is in
    let dx : FitsSigned w32 c.args.dx = c.ranges.dx in
    let dy : FitsSigned w32 c.args.dy = c.ranges.dy in
    moved_banded _ _ c.args.dx c.args.dy (moved_at _ _ _ a (simp to_z-of_z at c.in_ok-rects.ensures)) (region_at c.self.view_is c.self.invariant)

pub returns : goal.returns
returns c =
    let a = c.as_slice.ensures.value ∙ c.self.view_is in
    let dx : FitsSigned w32 c.args.dx = c.ranges.dx in
    let dy : FitsSigned w32 c.args.dy = c.ranges.dy in
    moved_has _ _ c.args.dx c.args.dy (moved_at _ _ _ a (simp to_z-of_z at c.in_ok-rects.ensures))
