use Rattle.user_laws.proofs.KeptByRefusals.{leave_in_order, quit_comes_last}
use Rattle.user_laws.proofs.refusals.posts_leave_in_order.Goals as goal

pub returns-clause-order : goal.returns-clause-order
returns-clause-order c = leave_in_order

pub returns-clause-quit_last : goal.returns-clause-quit_last
returns-clause-quit_last c = quit_comes_last
