use Rattle.std.proofs.Common.{◌≡◌, ◌-◌, ◌++◌}
use Rattle.log_text.specs.Frames.{frame_text}
use Rattle.log_text.proofs.frame.put_frame.Given as goal

abbrev pub invariant-loop : goal.invariant-loop
invariant-loop l = l.out.items ++ frame_text l.width (l.height - l.counter) l.rest ≡ l.initial.out.items ++ frame_text l.width l.height l.colours
