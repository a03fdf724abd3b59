use Rattle.std.proofs.Common.{◌≡◌, List, not, ap, subst, ◌∙◌}
use Rattle.std.specs.Prelude.{◌&&◌, IfOk}
use Rattle.win_num.specs.declared.shapes.Point.{Point}
use Rattle.win_num.specs.declared.shapes.Rect.{Rect}
use Rattle.band_region.specs.Regions.{region_has}
use Rattle.screen_owners.proofs.JoinedLaws.{region_found, region_lost}
use Rattle.screen_owners.proofs.joined.outside.Goals as goal

pub returns-in-Some : goal.returns-in-Some
returns-in-Some c = subst (λ (r : List Rect). IfOk c.left_of.result (λ x. (p : Point) → region_has x p ≡ (region_has r p && not (region_has c.args.part.now p)))) (region_found c.args.owners.now c.args.w.0 _ c.in-Some.ensures) c.left_of.ensures

pub returns-in-None : goal.returns-in-None
returns-in-None c p = ap (λ (r : List Rect). region_has r p) c.empty.ensures ∙ ap (λ (r : List Rect). region_has r p && not (region_has c.args.part.now p)) (region_lost c.args.owners.now c.args.w.0 c.in-None.ensures)
