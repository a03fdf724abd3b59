use Rattle.window_state.proofs.LookSteps.{same_look}
use Rattle.window_state.proofs.looks.placed.Goals as goal

pub returns : goal.returns
returns c = same_look _ _ _ _ _ _ c.styled_by.ensures c.pinned_by.ensures c.moved_by.ensures
