use Rattle.win_order.proofs.MendingLaws.{mended_twice}
use Rattle.win_order.proofs.laws.mending_twice_is_mending.Goals as goal

pub returns : goal.returns
returns c = mended_twice
