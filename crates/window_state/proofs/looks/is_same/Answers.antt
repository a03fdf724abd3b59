use Rattle.window_state.proofs.LookSteps.{same_kept}
use Rattle.window_state.proofs.looks.is_same.Goals as goal

pub returns : goal.returns
returns c = same_kept c.args.a c.args.b c.ranges.a c.ranges.b
