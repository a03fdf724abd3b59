use Rattle.std.proofs.lemmas.Grind.{common_steps}
use Rattle.std.proofs.Common.{arith}
use Rattle.illegal_text.proofs.lines.lines_of.Goals as goal

pub loop-extra-preserved : goal.loop-extra-preserved
loop-extra-preserved c = grind (arith, common_steps)

pub returns : goal.returns
returns c = grind (arith, common_steps)
