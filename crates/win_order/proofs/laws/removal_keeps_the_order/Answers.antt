use Rattle.win_order.proofs.KeptLaws.{kept_kept, removed_kept}
use Rattle.win_order.proofs.laws.removal_keeps_the_order.Goals as goal

pub returns : goal.returns
returns c = record { one = removed_kept; several = kept_kept }
