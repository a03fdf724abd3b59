use Rattle.win_order.proofs.KeptLaws.{placed_kept}
use Rattle.win_order.proofs.laws.placing_keeps_the_order.Goals as goal

pub returns : goal.returns
returns c = placed_kept
