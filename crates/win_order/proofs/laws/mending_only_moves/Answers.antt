use Rattle.win_order.proofs.MendingLaws.{mended_moves}
use Rattle.win_order.proofs.laws.mending_only_moves.Goals as goal

pub returns : goal.returns
returns c = mended_moves
