use Rattle.user_pool.proofs.NeverFull.{run_short, has_room}
use Rattle.user_pool.proofs.laws.runs_are_short.Goals as goal

pub returns-clause-length : goal.returns-clause-length
returns-clause-length c = run_short

pub returns-clause-room : goal.returns-clause-room
returns-clause-room c = has_room
