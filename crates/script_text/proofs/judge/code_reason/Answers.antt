use Rattle.std.proofs.lemmas.Grind.{common_steps}
use Rattle.std.proofs.Common.{arith}
use Rattle.script_text.proofs.judge.code_reason.Goals as goal

pub returns-in_default : goal.returns-in_default
returns-in_default c = grind (arith, common_steps)

pub returns-then-not-has_line : goal.returns-then-not-has_line
returns-then-not-has_line c = grind (arith, common_steps)

pub returns : goal.returns
returns c = grind (arith, common_steps)
