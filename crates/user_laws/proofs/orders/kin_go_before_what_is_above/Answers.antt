use Rattle.user_model.specs.Windows.{live}
use Rattle.user_laws.proofs.Forest.{live_forest}
use Rattle.user_laws.proofs.Before.{kin_then_ended, kin_parents, kin_owners}
use Rattle.user_laws.proofs.orders.kin_go_before_what_is_above.Goals as goal

pub returns-clause-itself : goal.returns-clause-itself
returns-clause-itself c setup past x y lawful is there kin = kin_then_ended (live past) (live_forest setup past lawful) x y is there kin

pub returns-clause-parents : goal.returns-clause-parents
returns-clause-parents c setup past x y p lawful is there above kin other of = kin_parents (live past) (live_forest setup past lawful) x y p is there above kin other of

pub returns-clause-owners : goal.returns-clause-owners
returns-clause-owners c setup past x y o lawful is there above kin other of = kin_owners (live past) (live_forest setup past lawful) x y o is there above kin other of
