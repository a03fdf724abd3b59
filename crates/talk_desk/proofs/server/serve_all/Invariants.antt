use Rattle.user_desk.specs.Desks.{IsDeskSeat}
use Rattle.talk_desk.proofs.server.serve_all.Given as goal

abbrev pub invariant-loop : goal.invariant-loop
invariant-loop g l = IsDeskSeat l.desk l.seat
