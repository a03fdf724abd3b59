use Rattle.std.proofs.lemmas.Grind.{common_steps}
use Rattle.log_read.specs.Reading.{signed_at}
use Rattle.std.proofs.Common.{rules, arith}
use Rattle.log_read.proofs.values.signed_at.Goals as goal

pub returns-in_default : goal.returns-in_default
unfolding signed_at
returns-in_default c = search rules

pub returns-then-first-eq45 : goal.returns-then-first-eq45
unfolding signed_at
returns-then-first-eq45 c = grind (arith, common_steps)

pub returns : goal.returns
unfolding signed_at
returns c = search rules
