use Rattle.std.proofs.Common.{List, ap, ◌∙◌}
use Rattle.update_region.specs.Updates.{Dirty}
use Rattle.dirty_windows.specs.declared.entries.DirtyWindow.{DirtyWindow}
use Rattle.dirty_windows.specs.LookUps.{erases_in}
use Rattle.dirty_windows.proofs.Settling.{none_update, some_update}
use Rattle.dirty_windows.proofs.windows.DirtyWindows.erases.Goals as goal

pub returns-in-Some : goal.returns-in-Some
returns-in-Some c = c.erase.ensures ∙ ap (λ (u : Dirty). u.erases) (some_update c.deref.result.now c.args.w.0 _ c.in-Some.ensures) ∙ ap (λ (ds : List DirtyWindow). erases_in ds c.args.w.0) (c.deref.ensures.value ∙ c.self.view_is)

pub returns-in-None : goal.returns-in-None
returns-in-None c = ap (λ (u : Dirty). u.erases) (none_update c.deref.result.now c.args.w.0 c.in-None.ensures) ∙ ap (λ (ds : List DirtyWindow). erases_in ds c.args.w.0) (c.deref.ensures.value ∙ c.self.view_is)
