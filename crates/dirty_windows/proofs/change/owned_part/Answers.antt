use Rattle.std.proofs.Common.{◌≡◌, List, ap, sym, subst, ◌∙◌}
use Rattle.std.specs.Prelude.{◌&&◌, IfOk}
use Rattle.win_num.specs.declared.shapes.Point.{Point}
use Rattle.win_num.specs.declared.shapes.Rect.{Rect}
use Rattle.band_region.specs.Regions.{region_has}
use Rattle.dirty_windows.proofs.Exposing.{and_none, none_owned, owned_is}
use Rattle.dirty_windows.proofs.change.owned_part.Goals as goal

pub returns-in-Some : goal.returns-in-Some
returns-in-Some c = subst (λ (r : List Rect). IfOk c.and.result (λ x. (p : Point) → region_has x p ≡ (region_has c.args.part.now p && region_has r p))) (owned_is c.args.owners.now c.args.w.0 _ c.in-Some.ensures) c.and.ensures

pub returns-in-None : goal.returns-in-None
returns-in-None c p = ap (λ (r : List Rect). region_has r p) c.empty.ensures ∙ sym (and_none (region_has c.args.part.now p)) ∙ ap (λ (r : List Rect). region_has c.args.part.now p && region_has r p) (none_owned c.args.owners.now c.args.w.0 c.in-None.ensures)
