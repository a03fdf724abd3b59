use Rattle.user_pool.proofs.OneRun.{same_movers}
use Rattle.user_pool.proofs.laws.movers_decide_the_run.Goals as goal

pub returns : goal.returns
returns c = same_movers
