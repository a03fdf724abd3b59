use Rattle.std.proofs.Common.{rules}
use Rattle.status_board.proofs.Keeping.{deals}
use Rattle.status_board.proofs.writer.deal.Goals as goal

pub split_seat-place-requires : goal.split_seat-place-requires
split_seat-place-requires c = (search rules, search rules, deals c.loop-number.place.id c.loop-number.place.me.0)
