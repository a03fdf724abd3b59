use Rattle.user_desk.specs.Desks.{IsDeskSeat}
use Rattle.machine_examples.proofs.desk.sequences.make_all.Given as goal

abbrev pub invariant-loop-call : goal.invariant-loop-call
invariant-loop-call g l = IsDeskSeat l.desk l.seat
