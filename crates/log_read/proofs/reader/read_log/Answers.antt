use Rattle.std.proofs.lemmas.Grind.{common_steps}
use Rattle.std.proofs.Common.{arith, rules}
use Rattle.log_read.proofs.reader.read_log.Goals as goal

pub returns-then-not-same_text-clause-cause : goal.returns-then-not-same_text-clause-cause
returns-then-not-same_text-clause-cause c = grind (arith, common_steps)

pub returns-clause-text : goal.returns-clause-text
returns-clause-text c = search rules
