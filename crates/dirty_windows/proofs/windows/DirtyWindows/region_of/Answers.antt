use Rattle.std.proofs.Common.{List, Some, ap, ◌∙◌}
use Rattle.std.specs.Prelude.{option_map}
use Rattle.dirty_windows.specs.declared.entries.DirtyWindow.{DirtyWindow}
use Rattle.dirty_windows.specs.LookUps.{entry_area, entry_of}
use Rattle.dirty_windows.proofs.Settling.{none_area, some_area}
use Rattle.dirty_windows.proofs.windows.DirtyWindows.region_of.Goals as goal

pub returns-in-Some : goal.returns-in-Some
returns-in-Some c = ap Some c.dirty.ensures ∙ some_area c.deref.result.now c.args.w.0 _ c.in-Some.ensures ∙ ap (λ (ds : List DirtyWindow). option_map entry_area (entry_of ds c.args.w.0)) (c.deref.ensures.value ∙ c.self.view_is)

pub returns-in-None : goal.returns-in-None
returns-in-None c = none_area c.deref.result.now c.args.w.0 c.in-None.ensures ∙ ap (λ (ds : List DirtyWindow). option_map entry_area (entry_of ds c.args.w.0)) (c.deref.ensures.value ∙ c.self.view_is)
