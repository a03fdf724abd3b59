use Rattle.std.proofs.Common.{◌≡◌, length}
use Rattle.window_state.specs.Boxes.{AreBoxes}
use Rattle.window_state.proofs.boxes.boxes_of.Given as goal

abbrev pub invariant-loop-k : goal.invariant-loop-k
invariant-loop-k l = record {
  many : length l.boxes.items ≡ l.k;
  boxes : AreBoxes l.tree.live l.tree.live l.boxes.items;
}
