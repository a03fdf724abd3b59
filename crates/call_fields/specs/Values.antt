-- The values of fields.
use Rattle.std.specs.Prelude.{ℕ, ℤ, pos, List, Option, Some, slice_get}
use Rattle.win_num.specs.declared.code.Code.{Code}
use Rattle.win_num.specs.declared.code.Code.TheVariants as codes_of
use Rattle.win_num.specs.declared.message.Hwnd.{Hwnd}
use Rattle.win_num.specs.declared.message.Thread.{Thread}
use Rattle.win_num.specs.declared.send.Cause.{Cause}
use Rattle.win_num.specs.declared.send.Cause.TheVariants as causes
use Rattle.win_num.specs.declared.send.SendId.{SendId}
use Rattle.user_model.specs.declared.entry.Origin.{Origin}
use Rattle.user_model.specs.declared.entry.Origin.TheVariants as origins
use Rattle.call_fields.specs.declared.form.Field.{Field}
use Rattle.call_fields.specs.declared.form.Field.TheVariants as fields
use Rattle.call_fields.specs.declared.value.Value.{Value}
use Rattle.call_fields.specs.declared.value.Value.TheVariants as values

-- the kind of the field in which a value stands
abbrev pub field_of : Value → Field
field_of (values.Number x) = fields.Number
field_of (values.Message x) = fields.Message
field_of (values.Signed x) = fields.Signed
field_of (values.Name x) = fields.Name
field_of (values.Procedure x) = fields.Procedure
field_of (values.Window x) = fields.Window
field_of (values.Send x) = fields.Send
field_of (values.Thread x) = fields.Thread
field_of (values.Count x) = fields.Count
field_of (values.ShortMessage x) = fields.ShortMessage
field_of (values.Pixel x) = fields.Pixel
field_of (values.Byte x) = fields.Byte
field_of (values.Source x) = fields.Source
field_of (values.Cause x) = fields.Cause
field_of (values.Code x) = fields.Code

-- the value of a field, where it is of that kind; else one that says nothing
abbrev pub as_number : Option Value → ℕ
as_number (Some (values.Number x)) = x
as_number v = 0

abbrev pub as_message : Option Value → ℕ
as_message (Some (values.Message x)) = x
as_message v = 0

abbrev pub as_signed : Option Value → ℤ
as_signed (Some (values.Signed x)) = x
as_signed v = pos 0

abbrev pub as_name : Option Value → ℕ
as_name (Some (values.Name x)) = x
as_name v = 0

abbrev pub as_procedure : Option Value → ℕ
as_procedure (Some (values.Procedure x)) = x
as_procedure v = 0

abbrev pub as_window : Option Value → Hwnd
as_window (Some (values.Window x)) = x
as_window v = record { 0 = 0 }

abbrev pub as_send : Option Value → SendId
as_send (Some (values.Send x)) = x
as_send v = record { 0 = 0 }

abbrev pub as_thread : Option Value → Thread
as_thread (Some (values.Thread x)) = x
as_thread v = record { 0 = 0 }

abbrev pub as_count : Option Value → ℕ
as_count (Some (values.Count x)) = x
as_count v = 0

abbrev pub as_short_message : Option Value → ℕ
as_short_message (Some (values.ShortMessage x)) = x
as_short_message v = 0

abbrev pub as_pixel : Option Value → ℤ
as_pixel (Some (values.Pixel x)) = x
as_pixel v = pos 0

abbrev pub as_byte : Option Value → ℕ
as_byte (Some (values.Byte x)) = x
as_byte v = 0

abbrev pub as_source : Option Value → Origin
as_source (Some (values.Source x)) = x
as_source v = origins.Posted

abbrev pub as_cause : Option Value → Cause
as_cause (Some (values.Cause x)) = x
as_cause v = causes.Proc

abbrev pub as_code : Option Value → Code
as_code (Some (values.Code x)) = x
as_code v = codes_of.NotNow

-- the value at a place, from 0, likewise
abbrev pub number_at : List Value → ℕ → ℕ
number_at vs k = as_number (slice_get vs k)

abbrev pub message_at : List Value → ℕ → ℕ
message_at vs k = as_message (slice_get vs k)

abbrev pub signed_at : List Value → ℕ → ℤ
signed_at vs k = as_signed (slice_get vs k)

abbrev pub name_at : List Value → ℕ → ℕ
name_at vs k = as_name (slice_get vs k)

abbrev pub procedure_at : List Value → ℕ → ℕ
procedure_at vs k = as_procedure (slice_get vs k)

abbrev pub window_at : List Value → ℕ → Hwnd
window_at vs k = as_window (slice_get vs k)

abbrev pub send_at : List Value → ℕ → SendId
send_at vs k = as_send (slice_get vs k)

abbrev pub thread_at : List Value → ℕ → Thread
thread_at vs k = as_thread (slice_get vs k)

abbrev pub count_at : List Value → ℕ → ℕ
count_at vs k = as_count (slice_get vs k)

abbrev pub short_message_at : List Value → ℕ → ℕ
short_message_at vs k = as_short_message (slice_get vs k)

abbrev pub pixel_at : List Value → ℕ → ℤ
pixel_at vs k = as_pixel (slice_get vs k)

abbrev pub byte_at : List Value → ℕ → ℕ
byte_at vs k = as_byte (slice_get vs k)

abbrev pub source_at : List Value → ℕ → Origin
source_at vs k = as_source (slice_get vs k)

abbrev pub cause_at : List Value → ℕ → Cause
cause_at vs k = as_cause (slice_get vs k)

abbrev pub code_at : List Value → ℕ → Code
code_at vs k = as_code (slice_get vs k)
