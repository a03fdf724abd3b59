use Rattle.std.proofs.Common.{◌≡◌, length}
use Rattle.parts_tests.proofs.frames.unanswered_sends_fill_the_table.Given as goal

abbrev pub invariant-loop-number : goal.invariant-loop-number
invariant-loop-number g l = length l.sends.stacks ≡ 2
