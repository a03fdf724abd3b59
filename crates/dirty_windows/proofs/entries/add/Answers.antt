use Rattle.std.proofs.Common.{List, ap, ◌∙◌}
use Rattle.std.proofs.lemmas.Result.{on_ok_weaker}
use Rattle.dirty_windows.specs.declared.entries.DirtyWindow.{DirtyWindow}
use Rattle.dirty_windows.specs.LookUps.{update_in}
use Rattle.dirty_windows.proofs.Settling.{added_to}
use Rattle.dirty_windows.proofs.entries.add.Goals as goal

pub returns-clause-ok : goal.returns-clause-ok
returns-clause-ok c = on_ok_weaker c.settle.result (added_to c.args.w.0 c.args.part.now c.args.erase c.invalidate.new.self c.in_ok-update.update c.args.entries.now.items _ (c.in_ok-update.ensures ∙ ap (λ (ds : List DirtyWindow). update_in ds c.args.w.0) c.deref.ensures.value) c.in_ok-invalidate.ensures.area c.in_ok-invalidate.ensures.erases) c.settle.ensures.ok
