use Rattle.std.proofs.Common.{map, take}
use Rattle.std.specs.List.{flat_map}
use Rattle.user_io.specs.Text.{Adds}
use Rattle.log_read.specs.Reading.{colour_at}
use Rattle.log_read.proofs.frames.add_rows.Given as goal

abbrev pub invariant-loop-row : goal.invariant-loop-row
invariant-loop-row l = Adds l.initial.colours.items l.colours.items (flat_map (λ row. map colour_at row.now) (take l.row-index l.rows))
