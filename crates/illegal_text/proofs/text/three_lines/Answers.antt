use Rattle.illegal_text.specs.Texts.{illegal_text}
use Rattle.std.proofs.lemmas.Grind.{common_steps}
use Rattle.std.proofs.Common.{arith}
use Rattle.illegal_text.proofs.text.three_lines.Goals as goal

pub returns : goal.returns
unfolding illegal_text
returns g c = grind (arith, common_steps)
