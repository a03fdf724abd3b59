use Rattle.run_explorer.proofs.AllRuns.{none_stuck, none_spent, none_marked}
use Rattle.run_explorer.proofs.laws.none_is_stuck.Goals as goal

pub returns-clause-stuck : goal.returns-clause-stuck
returns-clause-stuck c = none_stuck

pub returns-clause-spent : goal.returns-clause-spent
returns-clause-spent c = none_spent

pub returns-clause-marked : goal.returns-clause-marked
returns-clause-marked c = none_marked
