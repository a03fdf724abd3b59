use Rattle.user_pool.proofs.OneRun.{one_listed}
use Rattle.user_pool.proofs.laws.one_run.Goals as goal

pub returns : goal.returns
returns c = one_listed
