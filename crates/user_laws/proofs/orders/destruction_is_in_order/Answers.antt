use Rattle.user_model.specs.Windows.{live}
use Rattle.user_laws.proofs.Forest.{live_forest}
use Rattle.user_laws.proofs.Walks.{more_changes_nothing, destruction_is, preorder_is, postorder_is}
use Rattle.user_laws.proofs.orders.destruction_is_in_order.Goals as goal

pub returns-clause-enough : goal.returns-clause-enough
returns-clause-enough c setup past n x lawful is le = more_changes_nothing (live past) (live_forest setup past lawful) n x is le

pub returns-clause-order : goal.returns-clause-order
returns-clause-order c setup past x lawful is = destruction_is (live past) (live_forest setup past lawful) x is

pub returns-clause-down : goal.returns-clause-down
returns-clause-down c setup past x lawful is = preorder_is (live past) (live_forest setup past lawful) x is

pub returns-clause-up : goal.returns-clause-up
returns-clause-up c setup past x lawful is = postorder_is (live past) (live_forest setup past lawful) x is
