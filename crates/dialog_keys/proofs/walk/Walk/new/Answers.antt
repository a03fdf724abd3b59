use Rattle.dialog_keys.proofs.WalkSteps.{begun_sums}
use Rattle.dialog_keys.proofs.walk.Walk.new.Goals as goal

pub returns : goal.returns
returns c = begun_sums c.args.key c.args.forwards c.from.result c.from-2.result c.from.ensures c.from-2.ensures
