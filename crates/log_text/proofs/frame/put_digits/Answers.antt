use Rattle.std.proofs.lemmas.Grind.{common_steps}
use Rattle.std.proofs.Common.{arith}
use Rattle.log_text.proofs.frame.put_digits.Goals as goal

pub loop-colour-preserved : goal.loop-colour-preserved
loop-colour-preserved c = grind (arith, common_steps)

pub returns : goal.returns
returns c = grind (arith, common_steps)
