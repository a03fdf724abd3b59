-- Calls that register messages and classes, or take a class back, one row each.
use Rattle.std.specs.Prelude.{List, [], ◌∷◌, codes, Option, None}
use Rattle.user_model.specs.declared.call.Call.{Call}
use Rattle.user_model.specs.declared.call.Call.TheVariants as calls
use Rattle.call_fields.specs.declared.form.Field.TheVariants as fields
use Rattle.call_fields.specs.declared.value.Value.{Value}
use Rattle.call_fields.specs.declared.value.Value.TheVariants as values
use Rattle.call_fields.specs.Forms.{Row, row}
use Rattle.call_fields.specs.Values.{name_at, number_at, procedure_at}
use Rattle.call_table.specs.declared.calls.CallName.{CallName}
use Rattle.call_table.specs.declared.calls.CallName.TheVariants as groups
use Rattle.call_table.specs.declared.registrations.RegistrationCall.{RegistrationCall}
use Rattle.call_table.specs.declared.registrations.RegistrationCall.TheVariants as names
use Rattle.call_table.specs.Splits.{Split, split}

-- the word of each, and the kinds of its fields
abbrev pub registration_row : RegistrationCall → Row
registration_row names.Message = row (codes "message") (fields.Name ∷ [])
registration_row names.Register = row (codes "register") (fields.Name ∷ fields.Procedure ∷ fields.Number ∷ [])
registration_row names.Unregister = row (codes "unregister") (fields.Name ∷ [])

-- all of them
abbrev pub registration_calls : List CallName
registration_calls = groups.Registration names.Message ∷ groups.Registration names.Register ∷ groups.Registration names.Unregister ∷ []

-- such a call taken apart; a call of another group is not
abbrev pub split_registration : Call → Option Split
split_registration (calls.Message name) = split (groups.Registration names.Message) (values.Name name ∷ [])
split_registration (calls.Register class procedure colour) = split (groups.Registration names.Register) (values.Name class ∷ values.Procedure procedure ∷ values.Number colour ∷ [])
split_registration (calls.Unregister class) = split (groups.Registration names.Unregister) (values.Name class ∷ [])
split_registration c = None

-- the call of this name, of the values at its places
abbrev pub made_registration : RegistrationCall → List Value → Call
made_registration names.Message vs = calls.Message (name_at vs 0)
made_registration names.Register vs = calls.Register (name_at vs 0) (procedure_at vs 1) (number_at vs 2)
made_registration names.Unregister vs = calls.Unregister (name_at vs 0)
