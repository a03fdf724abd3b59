use Rattle.std.proofs.Common.{All, take}
use Rattle.look_state.specs.Looks.{IsCovered}
use Rattle.look_state.proofs.pixels.are_covered.Given as goal

abbrev pub invariant-loop-d : goal.invariant-loop-d
invariant-loop-d l = All (IsCovered l.tree.live l.thread.0 l.seen) (take l.d-index l.dirty)
