use Rattle.clip_board.specs.declared.moves.ClipGot.{ClipGot}
use Rattle.clip_board.specs.Traces.{Awaits, Accepts}
use Rattle.clip_tests.proofs.states.empty_asks.Given as goal

abbrev pub invariant-loop-got : goal.invariant-loop-got
invariant-loop-got g l = (h : ClipGot) → Awaits l.next h → Accepts l.state.stage h
