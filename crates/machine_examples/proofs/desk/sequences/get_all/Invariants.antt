use Rattle.user_desk.specs.Desks.{IsDeskSeat}
use Rattle.machine_examples.proofs.desk.sequences.get_all.Given as goal

abbrev pub invariant-loop-filter : goal.invariant-loop-filter
invariant-loop-filter g l = IsDeskSeat l.desk l.seat
