use Rattle.std.proofs.lemmas.Grind.{common_steps}
use Rattle.std.proofs.Common.{◌∙◌, arith}
use Rattle.user_pool.proofs.group.Group.run.Goals as goal

pub loop-preserved : goal.loop-preserved
loop-preserved g c = record {
  seated = c.pass.ensures.seated;
  threads = c.pass.ensures.threads ∙ c.loop.invariant.threads;
  works = λ s program same at. c.in-Ok-true.ensures.works s program same (c.loop.invariant.works s program same at);
}

pub returns-in-Ok-false-clause-works : goal.returns-in-Ok-false-clause-works
returns-in-Ok-false-clause-works g c = λ fed s program same at. c.in-Ok-false.ensures.works s program same (c.loop.invariant.works s program same at)

pub returns-in-Err-clause-works : goal.returns-in-Err-clause-works
returns-in-Err-clause-works g c = grind (arith, common_steps)
