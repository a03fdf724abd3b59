use Rattle.user_desk.specs.Desks.{IsDeskSeat}
use Rattle.board_examples.proofs.monitor.post_all.Given as goal

abbrev pub invariant-loop-message : goal.invariant-loop-message
invariant-loop-message g l = IsDeskSeat l.desk l.seat
