use Rattle.win_order.proofs.KeptLaws.{inserted_kept}
use Rattle.win_order.proofs.laws.insertion_keeps_the_order.Goals as goal

pub returns : goal.returns
returns c = inserted_kept
