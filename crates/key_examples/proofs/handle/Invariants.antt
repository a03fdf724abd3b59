use Rattle.win_calls.specs.declared.compound.Got.{Got}
use Rattle.win_calls.specs.States.{Awaits}
use Rattle.dialog_keys.specs.States.{Accepts}
use Rattle.key_examples.proofs.handle.Given as goal

-- what was asked for can be handed in
abbrev pub invariant-loop : goal.invariant-loop
invariant-loop g l = (h : Got) → Awaits l.next h → Accepts l.state.stage h
