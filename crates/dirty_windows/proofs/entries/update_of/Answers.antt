use Rattle.dirty_windows.specs.declared.entries.DirtyWindow.{DirtyWindow}
use Rattle.std.proofs.Common.{Some, sym, ap, ◌∙◌}
use Rattle.std.specs.Prelude.{option_map}
use Rattle.dirty_windows.specs.LookUps.{entry_update}
use Rattle.dirty_windows.proofs.Settling.{entry_at, no_entry}
use Rattle.dirty_windows.proofs.entries.update_of.Goals as goal

pub returns-in-Ok : goal.returns-in-Ok
returns-in-Ok c = ap (λ (d : DirtyWindow). Some d.update) (sym c.index-entries-i.is) ∙ sym (ap (option_map entry_update) (entry_at c.args.entries.now c.args.w.0 c.in-Ok.i c.index-entries-i.result c.requires c.in-Ok.ensures.found c.index-entries-i.is))

pub returns-in-Err : goal.returns-in-Err
returns-in-Err c = sym (ap (option_map entry_update) (no_entry c.args.entries.now c.args.w.0 _ c.requires c.in-Err.ensures.missing))
