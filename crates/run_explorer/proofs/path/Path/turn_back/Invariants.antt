use Rattle.run_explorer.proofs.Backing.{GoesBack, IsFrontOf}
use Rattle.run_explorer.proofs.path.Path.turn_back.Given as goal

abbrev pub invariant-loop-step : goal.invariant-loop-step
invariant-loop-step l = record {
  back : GoesBack l.fn.self.steps.items l.self.steps.items;
  front : IsFrontOf l.fn.self.steps.items l.self.steps.items;
}

abbrev pub decreases-loop-step : goal.decreases-loop-step
decreases-loop-step l = goal.left-loop-step l
