use Rattle.std.proofs.Common.{◌≡◌, take}
use Rattle.look_state.specs.Looks.{seen_of}
use Rattle.look_state.proofs.seen.seen_of.Given as goal

abbrev pub invariant-loop-d : goal.invariant-loop-d
invariant-loop-d l = l.seen.items ≡ seen_of l.tree.live l.thread.0 (take l.d-index l.dirty)
