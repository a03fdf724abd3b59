use Rattle.dialog_keys.proofs.WalkSteps.{opened_sums}
use Rattle.dialog_keys.proofs.walk.Walk.with_open.Goals as goal

pub returns : goal.returns
returns c k forwards ws w s = opened_sums c.args.self c.nearer.result c.farther.result k forwards ws w c.nearer.ensures c.farther.ensures s
