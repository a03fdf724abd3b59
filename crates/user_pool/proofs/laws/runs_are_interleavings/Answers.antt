use Rattle.user_pool.proofs.Interleavings.{run_interleaves, interleaving_runs, run_front}
use Rattle.user_pool.proofs.laws.runs_are_interleavings.Goals as goal

pub returns-clause-interleaves : goal.returns-clause-interleaves
returns-clause-interleaves c = run_interleaves

pub returns-clause-runs : goal.returns-clause-runs
returns-clause-runs c = interleaving_runs

pub returns-clause-fronts : goal.returns-clause-fronts
returns-clause-fronts c = run_front
