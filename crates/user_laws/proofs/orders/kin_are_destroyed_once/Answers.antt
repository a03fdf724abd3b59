use Rattle.user_model.specs.Windows.{live}
use Rattle.user_laws.proofs.Forest.{live_forest}
use Rattle.user_laws.proofs.Once.{told_exactly, ended_exactly}
use Rattle.user_laws.proofs.orders.kin_are_destroyed_once.Goals as goal

pub returns-clause-told : goal.returns-clause-told
returns-clause-told c setup past x w lawful is = told_exactly (live past) (live_forest setup past lawful) x w is

pub returns-clause-ended : goal.returns-clause-ended
returns-clause-ended c setup past x w lawful is = ended_exactly (live past) (live_forest setup past lawful) x w is
