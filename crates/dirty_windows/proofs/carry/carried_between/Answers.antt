use Rattle.std.proofs.Common.{◌≡◌, not, ap, ◌∙◌}
use Rattle.std.specs.Prelude.{◌&&◌}
use Rattle.std.proofs.lemmas.Result.{IfOk-weaker}
use Rattle.win_num.specs.declared.shapes.Point.{Point}
use Rattle.band_region.specs.Regions.{region_has}
use Rattle.screen_owners.specs.Owners.{is_on_screen}
use Rattle.dirty_windows.specs.Carrying.{source}
use Rattle.dirty_windows.specs.LookUps.{area_in}
use Rattle.dirty_windows.proofs.carry.carried_between.Goals as goal

pub returns : goal.returns
returns c =
    let from : Point → Point = source c.args.shift in
    IfOk-weaker c.and.result
    (λ x. (p : Point) → region_has x p ≡ (region_has c.in_ok-moved.moved p && region_has c.in_ok-there.there p))
    (λ x. (p : Point) → region_has x p ≡ (((region_has c.args.before.now (from p) && not (region_has (area_in c.args.entries.now c.args.w.0) (from p))) && is_on_screen c.args.screen.width c.args.screen.height (from p)) && (region_has c.args.after.now p && is_on_screen c.args.screen.width c.args.screen.height p)))
    (λ x h p. h p ∙ (ap (λ b. b && region_has c.in_ok-there.there p) (c.in_ok-moved.ensures p ∙ ap (λ b. b && is_on_screen c.args.screen.width c.args.screen.height (from p)) (c.in_ok-clean.ensures (from p))) ∙ ap (λ b. ((region_has c.args.before.now (from p) && not (region_has (area_in c.args.entries.now c.args.w.0) (from p))) && is_on_screen c.args.screen.width c.args.screen.height (from p)) && b) (c.in_ok-there.ensures p)))
    c.and.ensures
