use Rattle.std.proofs.Common.{List, subst, refl, rules, tests}
use Rattle.dirty_windows.specs.declared.entries.DirtyWindow.{DirtyWindow}
use Rattle.dirty_windows.specs.Places.{IsAt, IsMissingAt}
use Rattle.dirty_windows.proofs.Settling.{put_at, put_new}
use Rattle.dirty_windows.proofs.entries.put.Goals as goal

pub returns-in-Ok-clause-ok : goal.returns-in-Ok-clause-ok
returns-in-Ok-clause-ok c = put_at c.args.entries.now.items _ c.args.w.0 c.in-Ok.i (record { window = c.args.w; update = c.args.update }) (search (rules, tests)) refl c.requires.rising (subst (λ (ds : List DirtyWindow). IsAt ds c.args.w.0 c.in-Ok.i) c.deref.ensures.value c.in-Ok.ensures.found)

pub returns-in_ok-insert-in-Err-clause-ok : goal.returns-in_ok-insert-in-Err-clause-ok
returns-in_ok-insert-in-Err-clause-ok c = put_new c.args.entries.now.items _ c.args.w.0 c.in-Err.i (record { window = c.args.w; update = c.args.update }) c.in_ok-insert-in-Err.ensures.items refl c.requires.window c.requires.rising (subst (λ (ds : List DirtyWindow). IsMissingAt ds c.args.w.0 c.in-Err.i) c.deref.ensures.value c.in-Err.ensures.missing)
