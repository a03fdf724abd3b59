use Rattle.std.proofs.Common.{◌≡◌, List, not, subst}
use Rattle.std.specs.Prelude.{◌&&◌, IfOk}
use Rattle.win_num.specs.declared.shapes.Point.{Point}
use Rattle.win_num.specs.declared.shapes.Rect.{Rect}
use Rattle.band_region.specs.Regions.{region_has}
use Rattle.dirty_windows.proofs.Exposing.{owned_is}
use Rattle.dirty_windows.proofs.change.other_part.Goals as goal

pub returns-in-Some : goal.returns-in-Some
returns-in-Some c = subst (λ (r : List Rect). IfOk c.left_of.result (λ x. (p : Point) → region_has x p ≡ (region_has c.args.part.now p && not (region_has r p)))) (owned_is c.args.owners.now c.args.w.0 _ c.in-Some.ensures) c.left_of.ensures
