use Rattle.user_desk.specs.Desks.{IsDeskSeat}
use Rattle.talk_desk.proofs.client.ask_all.Given as goal

abbrev pub invariant-loop-question : goal.invariant-loop-question
invariant-loop-question g l = IsDeskSeat l.desk l.seat
