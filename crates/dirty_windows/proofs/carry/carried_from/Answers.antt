use Rattle.std.proofs.Common.{◌≡◌, List, not, ap, subst, ◌∙◌}
use Rattle.std.specs.Prelude.{◌&&◌, IfOk}
use Rattle.win_num.specs.declared.shapes.Point.{Point}
use Rattle.win_num.specs.declared.shapes.Rect.{Rect}
use Rattle.band_region.specs.Regions.{region_has}
use Rattle.screen_owners.specs.Owners.{is_on_screen}
use Rattle.dirty_windows.specs.Carrying.{source}
use Rattle.dirty_windows.specs.LookUps.{area_in}
use Rattle.dirty_windows.proofs.Carrying.{brings_nowhere}
use Rattle.dirty_windows.proofs.Exposing.{none_owned, owned_is}
use Rattle.dirty_windows.proofs.carry.carried_from.Goals as goal

pub returns-in-Some : goal.returns-in-Some
returns-in-Some c =
    let from : Point → Point = source c.args.shift in
    subst (λ (r : List Rect). IfOk c.carried_between.result (λ x. (p : Point) → region_has x p ≡ (((region_has c.args.before.now (from p) && not (region_has (area_in c.args.entries.now c.args.w.0) (from p))) && is_on_screen c.args.screen.width c.args.screen.height (from p)) && (region_has r p && is_on_screen c.args.screen.width c.args.screen.height p))))
    (owned_is c.args.new.now c.args.w.0 _ c.in-Some.ensures) c.carried_between.ensures

pub returns-in-None : goal.returns-in-None
returns-in-None c p = ap (λ (r : List Rect). region_has r p) c.empty.ensures ∙ brings_nowhere c.args.new.now c.args.w.0 p _ _ (none_owned c.args.new.now c.args.w.0 c.in-None.ensures)
