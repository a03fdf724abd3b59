use Rattle.std.proofs.Common.{◌≡◌, take}
use Rattle.log_replay.proofs.differences.first_line.Given as goal

abbrev pub invariant-loop-place : goal.invariant-loop-place
invariant-loop-place l = take l.place l.found ≡ take l.place l.right
