use Rattle.std.proofs.Common.{◌≡◌, length}
use Rattle.parts_tests.proofs.frames.own_sends_fill_a_stack.Given as goal

abbrev pub invariant-loop-number : goal.invariant-loop-number
invariant-loop-number g l = length l.sends.stacks ≡ 1
