use Rattle.std.proofs.Common.{◌≡◌, ◌-◌, ◌≤◌, length}
use Rattle.send_state.specs.Parts.{freed_to}
use Rattle.send_state.proofs.state.free.Given as goal

abbrev pub invariant-loop-send : goal.invariant-loop-send
invariant-loop-send l = record {
  so_far : l.sends ≡ freed_to l.who.0 l.fn.sends l.last.0;
  begun : l.sends.begun ≡ l.fn.sends.begun;
  within : l.last.0 ≤ l.sends.begun;
  threads : length l.sends.stacks ≡ length l.fn.sends.stacks;
}

abbrev pub decreases-loop-send : goal.decreases-loop-send
decreases-loop-send l = l.sends.begun - l.last.0
