use Rattle.user_desk.specs.Desks.{IsDeskSeat}
use Rattle.board_examples.proofs.measure.ask_often.Given as goal

abbrev pub invariant-loop : goal.invariant-loop
invariant-loop g l = IsDeskSeat l.desk l.seat
