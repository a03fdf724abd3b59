use Rattle.user_pool.proofs.NeverCut.{never_cut}
use Rattle.user_pool.proofs.laws.runs_are_not_cut.Goals as goal

pub returns : goal.returns
returns c s past listed = never_cut s past listed.run listed.over
