use Rattle.std.proofs.lemmas.Grind.{common_steps}
use Rattle.std.proofs.Common.{arith}
use Rattle.script_text.proofs.builder.Builder.take.Goals as goal

pub returns-in-Procedure-clause-lines : goal.returns-in-Procedure-clause-lines
returns-in-Procedure-clause-lines c = grind (arith, common_steps)

pub returns-in-Thread-clause-lines : goal.returns-in-Thread-clause-lines
returns-in-Thread-clause-lines c = grind (arith, common_steps)

pub returns-in-Let-clause-lines : goal.returns-in-Let-clause-lines
returns-in-Let-clause-lines c = grind (arith, common_steps)

pub returns-in-Compute-clause-lines : goal.returns-in-Compute-clause-lines
returns-in-Compute-clause-lines c = grind (arith, common_steps)

pub returns-in-If-clause-lines : goal.returns-in-If-clause-lines
returns-in-If-clause-lines c = grind (arith, common_steps)

pub returns-in-Else-clause-lines : goal.returns-in-Else-clause-lines
returns-in-Else-clause-lines c = grind (arith, common_steps)

pub returns-in-While-clause-lines : goal.returns-in-While-clause-lines
returns-in-While-clause-lines c = grind (arith, common_steps)

pub returns-in-Return-clause-lines : goal.returns-in-Return-clause-lines
returns-in-Return-clause-lines c = grind (arith, common_steps)

pub returns-in-Call-clause-lines : goal.returns-in-Call-clause-lines
returns-in-Call-clause-lines c = grind (arith, common_steps)

pub returns-in-Sleep-clause-lines : goal.returns-in-Sleep-clause-lines
returns-in-Sleep-clause-lines c = grind (arith, common_steps)

pub returns-in-Create-clause-lines : goal.returns-in-Create-clause-lines
returns-in-Create-clause-lines c = grind (arith, common_steps)

pub returns-in-Destroy-clause-lines : goal.returns-in-Destroy-clause-lines
returns-in-Destroy-clause-lines c = grind (arith, common_steps)

pub returns-in-Compound-clause-lines : goal.returns-in-Compound-clause-lines
returns-in-Compound-clause-lines c = grind (arith, common_steps)

pub returns-in-Default-clause-lines : goal.returns-in-Default-clause-lines
returns-in-Default-clause-lines c = grind (arith, common_steps)
