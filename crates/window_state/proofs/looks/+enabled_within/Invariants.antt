use Rattle.window_state.proofs.looks.+enabled_within.Given as goal

abbrev pub decreases-enabled_within : goal.decreases-enabled_within
decreases-enabled_within l = l.steps
