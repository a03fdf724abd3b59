use Rattle.run_explorer.proofs.AllRuns.{all_within}
use Rattle.run_explorer.proofs.laws.all_runs_are_within.Goals as goal

pub returns : goal.returns
returns c = all_within
