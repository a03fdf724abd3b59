use Rattle.std.proofs.Common.{◌≡◌, List, subst, ◌∙◌}
use Rattle.std.specs.Prelude.{◌&&◌, IfOk}
use Rattle.win_num.specs.declared.shapes.Point.{Point}
use Rattle.win_num.specs.declared.shapes.Rect.{Rect}
use Rattle.band_region.specs.Regions.{region_has}
use Rattle.update_region.specs.Updates.{Dirty}
use Rattle.dirty_windows.proofs.Exposing.{none_owned, owned_is}
use Rattle.dirty_windows.proofs.change.owned_update.Goals as goal

pub returns-in-Some-clause-area : goal.returns-in-Some-clause-area
returns-in-Some-clause-area c = subst (λ (r : List Rect). IfOk c.kept_in.result (λ (u : Dirty). (p : Point) → region_has u.area p ≡ (region_has c.args.update.now.area p && region_has r p))) (owned_is c.args.owners.now c.args.w.0 _ c.in-Some.ensures) c.kept_in.ensures.area

pub returns-in_ok-kept-in-None-clause-area : goal.returns-in_ok-kept-in-None-clause-area
returns-in_ok-kept-in-None-clause-area c = subst (λ (r : List Rect). (p : Point) → region_has c.in_ok-kept-in-None.kept.area p ≡ (region_has c.args.update.now.area p && region_has r p)) (c.empty-none.ensures ∙ none_owned c.args.owners.now c.args.w.0 c.in-None.ensures) c.in_ok-kept-in-None.ensures.area
