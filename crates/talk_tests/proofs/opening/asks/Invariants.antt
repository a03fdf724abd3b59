use Rattle.win_calls.specs.declared.compound.Got.{Got}
use Rattle.win_calls.specs.States.{Awaits, Accepts}
use Rattle.talk_tests.proofs.opening.asks.Given as goal

abbrev pub invariant-loop-got : goal.invariant-loop-got
invariant-loop-got g l = (h : Got) → Awaits l.next h → Accepts l.state.state.stage h
