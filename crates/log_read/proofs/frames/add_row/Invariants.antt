use Rattle.std.proofs.Common.{map, take}
use Rattle.user_io.specs.Text.{Adds}
use Rattle.log_read.specs.Reading.{colour_at}
use Rattle.log_read.proofs.frames.add_row.Given as goal

abbrev pub invariant-loop-digit : goal.invariant-loop-digit
invariant-loop-digit l = Adds l.initial.colours.items l.colours.items (map colour_at (take l.digit-index l.row))
