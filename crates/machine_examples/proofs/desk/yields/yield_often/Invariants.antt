use Rattle.user_desk.specs.Desks.{IsDeskSeat}
use Rattle.machine_examples.proofs.desk.yields.yield_often.Given as goal

abbrev pub invariant-loop : goal.invariant-loop
invariant-loop g l = IsDeskSeat l.desk l.seat
