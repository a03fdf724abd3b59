use Rattle.std.proofs.Common.{List, subst, refl, ◌∙◌}
use Rattle.dirty_windows.specs.declared.entries.DirtyWindow.{DirtyWindow}
use Rattle.dirty_windows.specs.Changes.{IsCut}
use Rattle.dirty_windows.proofs.Exposing.{changed_area, changed_same}
use Rattle.dirty_windows.proofs.Kept.{kept_with}
use Rattle.dirty_windows.proofs.windows.DirtyWindows.after_change.Goals as goal

pub returns-clause-area : goal.returns-clause-area
returns-clause-area c = changed_area c.args.old.now c.args.new.now c.args.moved.now c.args.carried.now c.args.self.now c.in_ok-entries.entries.items _ (subst (λ (ds : List DirtyWindow). IsCut c.args.new.now c.args.moved.now c.args.carried.now ds c.in_ok-entries.entries.items) (c.deref.ensures.value ∙ c.self.view_is) c.in_ok-entries.ensures) c.in_ok-expose_all.ensures

pub returns-clause-set : goal.returns-clause-set
returns-clause-set c w p x = c.in_ok-expose_all.ensures.set w p refl x

pub returns-clause-same : goal.returns-clause-same
returns-clause-same c = changed_same c.args.old.now c.args.new.now c.args.moved.now c.args.carried.now c.args.self.now c.in_ok-entries.entries.items _ (subst (λ (ds : List DirtyWindow). IsCut c.args.new.now c.args.moved.now c.args.carried.now ds c.in_ok-entries.entries.items) (c.deref.ensures.value ∙ c.self.view_is) c.in_ok-entries.ensures) c.in_ok-expose_all.ensures

pub invariant_of-result : goal.invariant_of-result
invariant_of-result c = kept_with c.deref-2.result.now _ c.are_clean-clean.result c.in_ok-expose_all.ensures.rising c.deref-2.ensures.value c.are_clean-clean.ensures
