use Rattle.dirty_windows.proofs.Kept.{kept_with}
use Rattle.dirty_windows.proofs.windows.DirtyWindows.take.Goals as goal

pub invariant_of-self : goal.invariant_of-self
invariant_of-self c = kept_with c.deref.result.now _ c.are_clean-self-inside.result c.remove-taken.ensures.left.rising c.deref.ensures.value c.are_clean-self-inside.ensures
