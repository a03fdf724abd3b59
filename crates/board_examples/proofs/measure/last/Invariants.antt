use Rattle.std.proofs.Common.{All}
use Rattle.user_desk.specs.Desks.{IsDeskSeat}
use Rattle.board_examples.proofs.measure.last.Given as goal

abbrev pub invariant-loop : goal.invariant-loop
invariant-loop g l = All (IsDeskSeat l.desk) l.seats.items × All (IsDeskSeat l.desk) l.some.items
