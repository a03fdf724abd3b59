use Rattle.win_order.proofs.KeptLaws.{kept_owned}
use Rattle.win_order.proofs.laws.kept_orders_meet_the_premises.Goals as goal

pub returns : goal.returns
returns c = kept_owned
