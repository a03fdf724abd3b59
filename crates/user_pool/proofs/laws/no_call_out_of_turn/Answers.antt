use Rattle.user_pool.proofs.InTurn.{all_by_row, none_not_now}
use Rattle.user_pool.proofs.laws.no_call_out_of_turn.Goals as goal

pub returns-clause-row : goal.returns-clause-row
returns-clause-row c s past run = all_by_row s past run

pub returns-clause-never : goal.returns-clause-never
returns-clause-never c s past run = none_not_now s past run
