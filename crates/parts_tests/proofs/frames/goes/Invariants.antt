use Rattle.std.proofs.Common.{◌≡◌, length}
use Rattle.parts_tests.proofs.frames.goes.Given as goal

abbrev pub invariant-loop-place : goal.invariant-loop-place
invariant-loop-place g l = length l.sends.stacks ≡ length l.initial.sends.stacks
