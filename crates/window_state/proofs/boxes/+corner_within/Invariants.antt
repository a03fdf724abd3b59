use Rattle.window_state.proofs.boxes.+corner_within.Given as goal

abbrev pub decreases-corner_within : goal.decreases-corner_within
decreases-corner_within l = l.steps
