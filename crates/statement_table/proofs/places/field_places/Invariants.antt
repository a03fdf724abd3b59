use Rattle.std.proofs.Common.{◌≡◌, take}
use Rattle.std.specs.Prelude.{map}
use Rattle.statement_table.specs.Places.{place_of}
use Rattle.statement_table.proofs.places.field_places.Given as goal

abbrev pub invariant-loop-field : goal.invariant-loop-field
invariant-loop-field l = l.places.items ≡ map place_of (take l.field-index l.field-items)
