use Rattle.user_desk.specs.Desks.{IsDeskSeat}
use Rattle.machine_examples.proofs.desk.two_threads.add_all.Given as goal

abbrev pub invariant-loop : goal.invariant-loop
invariant-loop g l = IsDeskSeat l.desk l.seat
