use Rattle.std.proofs.lemmas.Grind.{common_steps}
use Rattle.std.proofs.Common.{arith}
use Rattle.illegal_text.proofs.ending.end_of.Goals as goal

pub returns-then-ends_stuck : goal.returns-then-ends_stuck
returns-then-ends_stuck g c = grind (arith, common_steps)

pub returns-then-is_spent : goal.returns-then-is_spent
returns-then-is_spent g c = grind (arith, common_steps)

pub returns : goal.returns
returns g c = grind (arith, common_steps)
