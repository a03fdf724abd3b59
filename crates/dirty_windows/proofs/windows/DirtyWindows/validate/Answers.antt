use Rattle.dirty_windows.proofs.Settling.{less_cleared}
use Rattle.dirty_windows.proofs.Kept.{kept_with}
use Rattle.dirty_windows.proofs.windows.DirtyWindows.validate.Goals as goal

pub returns-clause-cleared : goal.returns-clause-cleared
returns-clause-cleared c = less_cleared c.args.w.0 c.validate.new.self c.self.inside.entries.items _ c.in_ok-validate.ensures.cleared c.in_ok-settle.ensures.ok

pub invariant_of-self-2 : goal.invariant_of-self-2
invariant_of-self-2 c = kept_with c.deref-2.result.now _ c.are_clean-self-inside.result c.in_ok-settle.ensures.ok.rising c.deref-2.ensures.value c.are_clean-self-inside.ensures
