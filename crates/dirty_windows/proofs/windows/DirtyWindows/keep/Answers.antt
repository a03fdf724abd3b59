use Rattle.std.proofs.Common.{List, filter, ap, sym, subst, ◌∙◌}
use Rattle.dirty_windows.specs.declared.entries.DirtyWindow.{DirtyWindow}
use Rattle.dirty_windows.specs.LookUps.{is_among, RisesFrom}
use Rattle.dirty_windows.proofs.Lists.{number}
use Rattle.dirty_windows.proofs.Cutting.{area_filtered, erases_filtered, rises-filter}
use Rattle.dirty_windows.proofs.Kept.{kept_with}
use Rattle.dirty_windows.proofs.windows.DirtyWindows.keep.Goals as goal

pub returns-clause-area : goal.returns-clause-area
returns-clause-area c = area_filtered c.args.live.now c.args.self.now _ (c.keep_listed.ensures ∙ ap (λ (ds : List DirtyWindow). filter (λ (d : DirtyWindow). is_among (number d) c.args.live.now) ds) c.self.view_is)

pub returns-clause-erases : goal.returns-clause-erases
returns-clause-erases c = erases_filtered c.args.live.now c.args.self.now _ (c.keep_listed.ensures ∙ ap (λ (ds : List DirtyWindow). filter (λ (d : DirtyWindow). is_among (number d) c.args.live.now) ds) c.self.view_is)

pub invariant_of-self : goal.invariant_of-self
invariant_of-self c = kept_with c.deref.result.now _ c.are_clean-self-inside.result (subst (RisesFrom 0) (sym c.keep_listed.ensures) (rises-filter 0 (λ (d : DirtyWindow). is_among (number d) c.args.live.now) c.self.inside.entries.items c.self.invariant.rising)) c.deref.ensures.value c.are_clean-self-inside.ensures
