-- The places of a statement for the fields of its call.
use Rattle.std.specs.Prelude.{List, [], map}
use Rattle.call_fields.specs.declared.form.Field.{Field}
use Rattle.call_fields.specs.declared.form.Field.TheVariants as fields
use Rattle.call_table.specs.declared.calls.CallName.{CallName}
use Rattle.call_table.specs.declared.calls.CallName.TheVariants as groups
use Rattle.call_table.specs.declared.delivery.DeliveryCall.TheVariants as delivery
use Rattle.call_table.specs.Calls.{call_row}
use Rattle.statement_table.specs.declared.part.Place.{Place}
use Rattle.statement_table.specs.declared.part.Place.TheVariants as places

-- the place of a statement for a field of its call; no call has a field of the last kinds
abbrev pub place_of : Field → Place
place_of fields.Number = places.Operand
place_of fields.Message = places.Operand
place_of fields.Signed = places.Operand
place_of fields.Name = places.Name
place_of fields.Procedure = places.Procedure
place_of fields.Window = places.Operand
place_of fields.Send = places.Operand
place_of fields.Thread = places.Operand
place_of fields.Count = places.Operand
place_of fields.ShortMessage = places.Operand
place_of fields.Pixel = places.Operand
place_of fields.Byte = places.Operand
place_of fields.Source = places.Operand
place_of fields.Cause = places.Operand
place_of fields.Code = places.Operand

-- one place for each field of a call
abbrev pub field_places : CallName → List Place
field_places n = map place_of (call_row n).fields

-- these two take the last message got, and so no operands
abbrev pub statement_places : CallName → List Place
statement_places (groups.Delivery delivery.Dispatch) = []
statement_places (groups.Delivery delivery.Translate) = []
statement_places n = field_places n
