use Rattle.std.proofs.Common.{FitsSigned, w32}
use Rattle.std.proofs.lemmas.Int.{to_z-of_z}
use Rattle.band_region.proofs.Geometry.{good_rect}
use Rattle.band_region.proofs.Pixels.{ok_from}
use Rattle.screen_owners.proofs.screen.known_rect.Goals as goal

pub unwrap-requires : goal.unwrap-requires
unwrap-requires c =
    let l : FitsSigned w32 c.args.l = c.ranges.l in
    let t : FitsSigned w32 c.args.t = c.ranges.t in
    let r : FitsSigned w32 c.args.r = c.ranges.r in
    let b : FitsSigned w32 c.args.b = c.ranges.b in
    let e = simp to_z-of_z at c.rect.ensures.err in
    ok_from _ _ e (good_rect _ _ _ _ c.requires.across c.requires.down c.requires.left_near c.requires.top_near c.requires.right_near c.requires.bottom_near)
