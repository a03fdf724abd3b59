use Rattle.std.proofs.Common.{◌≡◌, [], replicate}
use Rattle.send_frames.proofs.sends.empty_stacks.Given as goal

abbrev pub invariant-loop : goal.invariant-loop
invariant-loop l = l.stacks.items ≡ replicate l.counter []
