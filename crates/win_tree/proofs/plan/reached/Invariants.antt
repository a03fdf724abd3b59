use Rattle.win_tree.specs.Plans.{AllGiven}
use Rattle.win_tree.proofs.plan.reached.Given as goal

abbrev pub invariant-loop-k : goal.invariant-loop-k
invariant-loop-k l = AllGiven l.rows l.plan.steps.items l.k
