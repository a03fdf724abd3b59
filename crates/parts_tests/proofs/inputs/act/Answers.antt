use Rattle.parts_tests.proofs.NewInputs.{below_left, below_next}
use Rattle.parts_tests.proofs.inputs.act.Goals as goal

pub returns-in-Take : goal.returns-in-Take
returns-in-Take c = rw c.take.ensures.left (below_left _ _ _ c.requires.rising)

pub returns-in-Purge : goal.returns-in-Purge
returns-in-Purge c = rw c.purge.ensures (below_left _ _ _ c.requires.rising)

pub returns-in-Ask : goal.returns-in-Ask
returns-in-Ask c = below_next _ _ c.requires.rising
