use Rattle.user_pool.proofs.OneRun.{run_lawful}
use Rattle.user_pool.proofs.laws.runs_are_lawful.Goals as goal

pub returns : goal.returns
returns c = run_lawful
