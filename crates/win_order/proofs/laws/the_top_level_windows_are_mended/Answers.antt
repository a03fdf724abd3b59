use Rattle.win_order.proofs.OrderLaws.{settled_is_mended, settled_moves}
use Rattle.win_order.proofs.laws.the_top_level_windows_are_mended.Goals as goal

pub returns : goal.returns
returns c = record { moved = settled_moves; mended = settled_is_mended }
