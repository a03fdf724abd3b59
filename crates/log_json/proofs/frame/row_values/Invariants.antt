use Rattle.std.proofs.Common.{◌≡◌, ◌-◌, ◌++◌, map}
use Rattle.serde_json.specs.View.{view}
use Rattle.log_text.specs.Frames.{rows}
use Rattle.log_json.specs.Objects.{row_string}
use Rattle.log_json.proofs.frame.row_values.Given as goal

abbrev pub invariant-loop : goal.invariant-loop
invariant-loop l = map view l.values.items ++ map row_string (rows l.width (l.height - l.counter) l.rest) ≡ map row_string (rows l.width l.height l.colours)
