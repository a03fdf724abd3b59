use Rattle.win_calls.specs.declared.compound.Got.{Got}
use Rattle.win_calls.specs.States.{Awaits, Accepts}
use Rattle.app_examples.proofs.short.loops.run.Given as goal

-- what was asked for can be handed in
abbrev pub invariant-loop : goal.invariant-loop
invariant-loop g l = (h : Got) → Awaits l.next h → Accepts l.state.state.stage h
