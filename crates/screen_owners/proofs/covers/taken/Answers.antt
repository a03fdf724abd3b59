use Rattle.std.proofs.Common.{◌≡◌, ap, sym, ◌∙◌}
use Rattle.win_num.specs.declared.shapes.Point.{Point}
use Rattle.win_num.specs.PixelSets.{has_pixel}
use Rattle.win_num.specs.Rects.{box_in}
use Rattle.band_region.specs.Regions.{region_has}
use Rattle.screen_owners.specs.declared.covers.Cover.{Cover}
use Rattle.screen_owners.proofs.Cuts.{taken_is}
use Rattle.screen_owners.proofs.covers.taken.Goals as goal

pub returns : goal.returns
returns c =
    let d = c.index-covers-i.result in
    let one : (p : Point) → region_has c.in_ok-part.part p ≡ has_pixel (box_in d.part) p = λ p. c.in_ok-part.ensures p ∙ ap (λ (x : Cover). has_pixel (box_in x.part) p) (sym c.index-covers-i.is) in
    taken_is c.args.whole.now c.in_ok-part.part c.in_ok-part-2.part c.in_ok-left.left c.args.covers.now _ c.args.i d c.requires c.index-covers-i.is c.split_at.ensures.back one c.in_ok-part-2.ensures c.in_ok-left.ensures
