use Rattle.user_desk.specs.Desks.{IsDeskSeat}
use Rattle.machine_examples.proofs.desk.sequences.post_all.Given as goal

abbrev pub invariant-loop-number : goal.invariant-loop-number
invariant-loop-number g l = IsDeskSeat l.desk l.seat
