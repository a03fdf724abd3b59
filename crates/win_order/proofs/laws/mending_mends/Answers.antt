use Rattle.win_order.proofs.MendingLaws.{mended_is_mended}
use Rattle.win_order.proofs.laws.mending_mends.Goals as goal

pub returns : goal.returns
returns c = mended_is_mended
