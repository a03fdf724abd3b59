use Rattle.std.proofs.Common.{◌≡◌, List, not, ap, sym, ◌∙◌}
use Rattle.std.specs.Prelude.{◌&&◌}
use Rattle.std.proofs.lemmas.Result.{IfOk-weaker}
use Rattle.win_num.specs.declared.shapes.Point.{Point}
use Rattle.win_num.specs.declared.shapes.Rect.{Rect}
use Rattle.band_region.specs.Regions.{region_has}
use Rattle.screen_owners.specs.Owners.{is_on_screen, region_in}
use Rattle.dirty_windows.specs.Carrying.{brings, source}
use Rattle.dirty_windows.specs.LookUps.{area_in}
use Rattle.dirty_windows.proofs.Carrying.{brings_for, brings_from_nowhere, brings_of_screen}
use Rattle.dirty_windows.proofs.Exposing.{none_owned, owned_is}
use Rattle.dirty_windows.proofs.carry.carried_of.Goals as goal

pub returns-then-eq : goal.returns-then-eq
returns-then-eq c p = ap (λ (r : List Rect). region_has r p) c.empty.ensures ∙ brings_of_screen c.args.entries.now c.args.old.now c.args.new.now c.args.screen c.args.shift c.args.w.0 p (sym c.eq.ensures ∙ c.if-eq.true)

pub returns-in-Some : goal.returns-in-Some
returns-in-Some c =
    let from : Point → Point = source c.args.shift in
    IfOk-weaker c.carried_from.result
    (λ x. (p : Point) → region_has x p ≡ (((region_has c.in-Some.before.now (from p) && not (region_has (area_in c.args.entries.now c.args.w.0) (from p))) && is_on_screen c.args.screen.width c.args.screen.height (from p)) && (region_has (region_in c.args.new.now c.args.w.0) p && is_on_screen c.args.screen.width c.args.screen.height p)))
    (λ x. (p : Point) → region_has x p ≡ brings c.args.entries.now c.args.old.now c.args.new.now c.args.screen c.args.shift c.args.w.0 p)
    (λ x h p. h p ∙ brings_for c.args.entries.now c.args.old.now c.args.new.now c.args.screen c.args.shift c.args.w.0 p c.in-Some.before.now (sym c.eq.ensures ∙ c.if-eq.false) (owned_is c.args.old.now c.args.w.0 _ c.in-Some.ensures))
    c.carried_from.ensures

pub returns-in-None : goal.returns-in-None
returns-in-None c p = ap (λ (r : List Rect). region_has r p) c.empty-in-None.ensures ∙ brings_from_nowhere c.args.entries.now c.args.old.now c.args.new.now c.args.screen c.args.shift c.args.w.0 p (none_owned c.args.old.now c.args.w.0 c.in-None.ensures)
