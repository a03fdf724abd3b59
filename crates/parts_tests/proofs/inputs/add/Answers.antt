use Rattle.parts_tests.proofs.NewInputs.{below_after}
use Rattle.parts_tests.proofs.inputs.add.Goals as goal

pub returns : goal.returns
returns c = below_after _ _ c.args.e c.args.group _ c.add.ensures.ok c.add.ensures.err c.requires.rising
