use Rattle.win_order.proofs.MendingLaws.{staying_mended, staying_stays}
use Rattle.win_order.proofs.laws.removal_keeps_a_mended_list.Goals as goal

pub returns : goal.returns
returns c = record { mended = staying_mended; stays = staying_stays }
