use Rattle.std.proofs.Common.{List, sym, subst, refl}
use Rattle.dirty_windows.specs.declared.entries.DirtyWindow.{DirtyWindow}
use Rattle.dirty_windows.specs.Places.{IsAt, IsMissingAt}
use Rattle.dirty_windows.proofs.Settling.{entry_at, no_entry, none_taken, taken_at}
use Rattle.dirty_windows.proofs.entries.remove.Goals as goal

pub returns-in-Ok-clause-entry : goal.returns-in-Ok-clause-entry
returns-in-Ok-clause-entry c = sym (entry_at c.args.entries.now.items c.args.w.0 c.in-Ok.i c.remove.result c.requires (subst (λ (ds : List DirtyWindow). IsAt ds c.args.w.0 c.in-Ok.i) c.deref.ensures.value c.in-Ok.ensures.found) c.remove.ensures.value)

pub returns-in-Ok-clause-left : goal.returns-in-Ok-clause-left
returns-in-Ok-clause-left c = taken_at c.args.entries.now.items _ c.args.w.0 c.in-Ok.i c.remove.result c.remove.ensures.items c.remove.ensures.value c.requires (subst (λ (ds : List DirtyWindow). IsAt ds c.args.w.0 c.in-Ok.i) c.deref.ensures.value c.in-Ok.ensures.found)

pub returns-in-Err-clause-entry : goal.returns-in-Err-clause-entry
returns-in-Err-clause-entry c = sym (no_entry c.args.entries.now.items c.args.w.0 c.in-Err.field-0 c.requires (subst (λ (ds : List DirtyWindow). IsMissingAt ds c.args.w.0 c.in-Err.field-0) c.deref.ensures.value c.in-Err.ensures.missing))

pub returns-in-Err-clause-left : goal.returns-in-Err-clause-left
returns-in-Err-clause-left c = none_taken c.args.entries.now.items c.args.entries.now.items c.args.w.0 c.in-Err.field-0 refl c.requires (subst (λ (ds : List DirtyWindow). IsMissingAt ds c.args.w.0 c.in-Err.field-0) c.deref.ensures.value c.in-Err.ensures.missing)
