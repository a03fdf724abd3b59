use Rattle.std.proofs.Common.{◌≡◌, ◌∙◌, refl, ap, arith}
use Rattle.std.specs.Prelude.{pos}
use Rattle.std.proofs.lemmas.Int.{ints}
use Rattle.std.proofs.lemmas.Result.{IfOk-weaker}
use Rattle.win_num.specs.declared.shapes.Point.{Point}
use Rattle.win_num.specs.PixelSets.{box, has_pixel}
use Rattle.win_num.specs.Rects.{box_in}
use Rattle.band_region.specs.Regions.{region_has}
use Rattle.screen_owners.specs.Owners.{is_on_screen}
use Rattle.screen_owners.proofs.Edges.{same_edges}
use Rattle.screen_owners.proofs.screen.pixels_of.Goals as goal

pub returns : goal.returns
returns c =
    let same : box_in c.known_rect-whole.result ≡ box (pos 0) (pos 0) (pos c.args.screen.width) (pos c.args.screen.height) = c.known_rect-whole.ensures ∙ same_edges _ _ _ _ _ _ _ _ refl refl (omega (arith, ints)) (omega (arith, ints)) in
    IfOk-weaker c.of_rect.result (λ x. (p : Point) → region_has x p ≡ has_pixel (box_in c.known_rect-whole.result) p) (λ x. (p : Point) → region_has x p ≡ is_on_screen c.args.screen.width c.args.screen.height p) (λ x h p. h p ∙ ap (λ b. has_pixel b p) same) c.of_rect.ensures
