use Rattle.win_calls.specs.declared.compound.Got.{Got}
use Rattle.win_calls.specs.States.{Awaits}
use Rattle.dialog_keys.specs.States.{Accepts}
use Rattle.key_tests.proofs.keys.asks.Given as goal

abbrev pub invariant-loop-got : goal.invariant-loop-got
invariant-loop-got g l = (h : Got) → Awaits l.next h → Accepts l.state.stage h
