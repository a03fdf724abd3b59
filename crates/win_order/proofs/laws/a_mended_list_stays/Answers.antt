use Rattle.win_order.proofs.MendingLaws.{mended_stays}
use Rattle.win_order.proofs.laws.a_mended_list_stays.Goals as goal

pub returns : goal.returns
returns c = mended_stays
