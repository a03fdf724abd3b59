use Rattle.dirty_windows.proofs.Kept.{invalid_area, invalid_erases, kept_with}
use Rattle.dirty_windows.proofs.windows.DirtyWindows.invalidate.Goals as goal

pub returns-clause-area : goal.returns-clause-area
returns-clause-area c = invalid_area c.args.owners.now c.args.w.0 c.args.part.now c.in_ok-part.part c.args.erase c.self.inside.entries.items c.args.self.now _ c.self.view_is c.in_ok-part.ensures c.in_ok-add.ensures.ok

pub returns-clause-erases : goal.returns-clause-erases
returns-clause-erases c = invalid_erases c.args.w.0 c.in_ok-part.part c.args.erase c.self.inside.entries.items c.args.self.now _ c.self.view_is c.in_ok-add.ensures.ok

pub invariant_of-self-2 : goal.invariant_of-self-2
invariant_of-self-2 c = kept_with c.deref.result.now _ c.are_clean-self-inside.result c.in_ok-add.ensures.ok.rising c.deref.ensures.value c.are_clean-self-inside.ensures
