use Rattle.user_desk.specs.Desks.{IsDeskSeat}
use Rattle.win_calls.specs.declared.compound.Got.{Got}
use Rattle.win_calls.specs.States.{Awaits, Accepts}
use Rattle.talk_desk.proofs.opening.run.Given as goal

-- the seat stays, and what was asked for can be handed in
abbrev pub invariant-loop : goal.invariant-loop
invariant-loop g l = IsDeskSeat l.desk l.seat × ((h : Got) → Awaits l.next h → Accepts l.state.state.stage h)
