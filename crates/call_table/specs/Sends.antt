-- Calls that send, one row each.
use Rattle.std.specs.Prelude.{List, [], ◌∷◌, codes, Option, None}
use Rattle.user_model.specs.declared.call.Call.{Call}
use Rattle.user_model.specs.declared.call.Call.TheVariants as calls
use Rattle.call_fields.specs.declared.form.Field.TheVariants as fields
use Rattle.call_fields.specs.declared.value.Value.{Value}
use Rattle.call_fields.specs.declared.value.Value.TheVariants as values
use Rattle.call_fields.specs.Forms.{Row, row}
use Rattle.call_fields.specs.Values.{message_at, number_at, procedure_at}
use Rattle.call_table.specs.declared.calls.CallName.{CallName}
use Rattle.call_table.specs.declared.calls.CallName.TheVariants as groups
use Rattle.call_table.specs.declared.sends.SendCall.{SendCall}
use Rattle.call_table.specs.declared.sends.SendCall.TheVariants as names
use Rattle.call_table.specs.Splits.{Split, split}

-- the word of each, and the kinds of its fields
abbrev pub send_row : SendCall → Row
send_row names.Send = row (codes "send") (fields.Number ∷ fields.Message ∷ fields.Number ∷ fields.Number ∷ [])
send_row names.SendTimeout = row (codes "send_timeout") (fields.Number ∷ fields.Message ∷ fields.Number ∷ fields.Number ∷ fields.Number ∷ fields.Number ∷ [])
send_row names.SendNotify = row (codes "send_notify") (fields.Number ∷ fields.Message ∷ fields.Number ∷ fields.Number ∷ [])
send_row names.SendCallback = row (codes "send_callback") (fields.Number ∷ fields.Message ∷ fields.Number ∷ fields.Number ∷ fields.Procedure ∷ fields.Number ∷ [])

-- all of them
abbrev pub send_calls : List CallName
send_calls = groups.Send names.Send ∷ groups.Send names.SendTimeout ∷ groups.Send names.SendNotify ∷ groups.Send names.SendCallback ∷ []

-- such a call taken apart; a call of another group is not
abbrev pub split_send : Call → Option Split
split_send (calls.Send window number wparam lparam) = split (groups.Send names.Send) (values.Number window ∷ values.Message number ∷ values.Number wparam ∷ values.Number lparam ∷ [])
split_send (calls.SendTimeout window number wparam lparam flags ms) = split (groups.Send names.SendTimeout) (values.Number window ∷ values.Message number ∷ values.Number wparam ∷ values.Number lparam ∷ values.Number flags ∷ values.Number ms ∷ [])
split_send (calls.SendNotify window number wparam lparam) = split (groups.Send names.SendNotify) (values.Number window ∷ values.Message number ∷ values.Number wparam ∷ values.Number lparam ∷ [])
split_send (calls.SendCallback window number wparam lparam procedure extra) = split (groups.Send names.SendCallback) (values.Number window ∷ values.Message number ∷ values.Number wparam ∷ values.Number lparam ∷ values.Procedure procedure ∷ values.Number extra ∷ [])
split_send c = None

-- the call of this name, of the values at its places
abbrev pub made_send : SendCall → List Value → Call
made_send names.Send vs = calls.Send (number_at vs 0) (message_at vs 1) (number_at vs 2) (number_at vs 3)
made_send names.SendTimeout vs = calls.SendTimeout (number_at vs 0) (message_at vs 1) (number_at vs 2) (number_at vs 3) (number_at vs 4) (number_at vs 5)
made_send names.SendNotify vs = calls.SendNotify (number_at vs 0) (message_at vs 1) (number_at vs 2) (number_at vs 3)
made_send names.SendCallback vs = calls.SendCallback (number_at vs 0) (message_at vs 1) (number_at vs 2) (number_at vs 3) (procedure_at vs 4) (number_at vs 5)
