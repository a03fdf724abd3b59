use Rattle.std.proofs.Common.{map, take}
use Rattle.user_io.specs.Text.{Adds}
use Rattle.input_hints.specs.Hints.{shown_byte}
use Rattle.input_hints.proofs.shown.put_bytes.Given as goal

abbrev pub invariant-loop-byte : goal.invariant-loop-byte
invariant-loop-byte l = Adds l.initial.out.items l.out.items (map shown_byte (take l.byte-index l.bytes))
