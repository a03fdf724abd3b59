use Rattle.dialog_keys.proofs.WalkSteps.{moved_sums}
use Rattle.dialog_keys.proofs.walk.Walk.at.Goals as goal

pub returns : goal.returns
returns c k forwards ws v s = moved_sums c.args.self c.args.child k forwards ws v s
