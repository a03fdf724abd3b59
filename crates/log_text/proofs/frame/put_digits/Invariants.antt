use Rattle.std.proofs.Common.{map, take}
use Rattle.user_io.specs.Text.{Adds}
use Rattle.log_text.specs.Frames.{digit}
use Rattle.log_text.proofs.frame.put_digits.Given as goal

abbrev pub invariant-loop-colour : goal.invariant-loop-colour
invariant-loop-colour l = Adds l.initial.out.items l.out.items (map digit (take l.colour-index l.row))
