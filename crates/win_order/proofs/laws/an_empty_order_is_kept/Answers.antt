use Rattle.win_order.proofs.KeptLaws.{empty_kept}
use Rattle.win_order.proofs.laws.an_empty_order_is_kept.Goals as goal

pub returns : goal.returns
returns c = empty_kept
