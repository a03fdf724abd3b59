use Rattle.user_pool.proofs.Turns.{chosen_free, chosen_left}
use Rattle.user_pool.proofs.laws.listed_runs_are_runs.Goals as goal

pub returns-clause-run : goal.returns-clause-run
returns-clause-run c s past listed = listed.run

pub returns-clause-chosen : goal.returns-clause-chosen
returns-clause-chosen c s past who chosen = (chosen_free s past who chosen, chosen_left s past who chosen)
