-- Calls on focus, active window, capture, attached threads, the mouse, keys and dialogs, one row each.
use Rattle.std.specs.Prelude.{List, [], ◌∷◌, codes, Option, None}
use Rattle.user_model.specs.declared.call.Call.{Call}
use Rattle.user_model.specs.declared.call.Call.TheVariants as calls
use Rattle.call_fields.specs.declared.form.Field.TheVariants as fields
use Rattle.call_fields.specs.declared.value.Value.{Value}
use Rattle.call_fields.specs.declared.value.Value.TheVariants as values
use Rattle.call_fields.specs.Forms.{Row, row}
use Rattle.call_fields.specs.Values.{message_at, number_at, signed_at}
use Rattle.call_table.specs.declared.calls.CallName.{CallName}
use Rattle.call_table.specs.declared.calls.CallName.TheVariants as groups
use Rattle.call_table.specs.declared.input.InputCall.{InputCall}
use Rattle.call_table.specs.declared.input.InputCall.TheVariants as names
use Rattle.call_table.specs.Splits.{Split, split}

-- the word of each, and the kinds of its fields
abbrev pub input_row : InputCall → Row
input_row names.SetFocus = row (codes "set_focus") (fields.Number ∷ [])
input_row names.SetActive = row (codes "set_active") (fields.Number ∷ [])
input_row names.SetCapture = row (codes "set_capture") (fields.Number ∷ [])
input_row names.ReleaseCapture = row (codes "release_capture") []
input_row names.GetFocus = row (codes "get_focus") []
input_row names.GetActive = row (codes "get_active") []
input_row names.GetCapture = row (codes "get_capture") []
input_row names.Attach = row (codes "attach") (fields.Number ∷ fields.Number ∷ [])
input_row names.Detach = row (codes "detach") (fields.Number ∷ fields.Number ∷ [])
input_row names.Mouse = row (codes "mouse") (fields.Message ∷ fields.Signed ∷ fields.Signed ∷ [])
input_row names.Key = row (codes "key") (fields.Number ∷ fields.Number ∷ [])
input_row names.KeyState = row (codes "key_state") (fields.Number ∷ [])
input_row names.BeginDialog = row (codes "begin_dialog") (fields.Number ∷ [])
input_row names.DialogState = row (codes "dialog_state") (fields.Number ∷ [])
input_row names.EndDialog = row (codes "end_dialog") (fields.Number ∷ fields.Number ∷ [])

-- all of them
abbrev pub input_calls : List CallName
input_calls = groups.Input names.SetFocus ∷ groups.Input names.SetActive ∷ groups.Input names.SetCapture ∷ groups.Input names.ReleaseCapture ∷ groups.Input names.GetFocus ∷ groups.Input names.GetActive ∷ groups.Input names.GetCapture ∷ groups.Input names.Attach ∷ groups.Input names.Detach ∷ groups.Input names.Mouse ∷ groups.Input names.Key ∷ groups.Input names.KeyState ∷ groups.Input names.BeginDialog ∷ groups.Input names.DialogState ∷ groups.Input names.EndDialog ∷ []

-- such a call taken apart; a call of another group is not
abbrev pub split_input : Call → Option Split
split_input (calls.SetFocus window) = split (groups.Input names.SetFocus) (values.Number window ∷ [])
split_input (calls.SetActive window) = split (groups.Input names.SetActive) (values.Number window ∷ [])
split_input (calls.SetCapture window) = split (groups.Input names.SetCapture) (values.Number window ∷ [])
split_input calls.ReleaseCapture = split (groups.Input names.ReleaseCapture) []
split_input calls.GetFocus = split (groups.Input names.GetFocus) []
split_input calls.GetActive = split (groups.Input names.GetActive) []
split_input calls.GetCapture = split (groups.Input names.GetCapture) []
split_input (calls.Attach thread other) = split (groups.Input names.Attach) (values.Number thread ∷ values.Number other ∷ [])
split_input (calls.Detach thread other) = split (groups.Input names.Detach) (values.Number thread ∷ values.Number other ∷ [])
split_input (calls.Mouse number x y) = split (groups.Input names.Mouse) (values.Message number ∷ values.Signed x ∷ values.Signed y ∷ [])
split_input (calls.Key down key) = split (groups.Input names.Key) (values.Number down ∷ values.Number key ∷ [])
split_input (calls.KeyState key) = split (groups.Input names.KeyState) (values.Number key ∷ [])
split_input (calls.BeginDialog window) = split (groups.Input names.BeginDialog) (values.Number window ∷ [])
split_input (calls.DialogState window) = split (groups.Input names.DialogState) (values.Number window ∷ [])
split_input (calls.EndDialog window result) = split (groups.Input names.EndDialog) (values.Number window ∷ values.Number result ∷ [])
split_input c = None

-- the call of this name, of the values at its places
abbrev pub made_input : InputCall → List Value → Call
made_input names.SetFocus vs = calls.SetFocus (number_at vs 0)
made_input names.SetActive vs = calls.SetActive (number_at vs 0)
made_input names.SetCapture vs = calls.SetCapture (number_at vs 0)
made_input names.ReleaseCapture vs = calls.ReleaseCapture
made_input names.GetFocus vs = calls.GetFocus
made_input names.GetActive vs = calls.GetActive
made_input names.GetCapture vs = calls.GetCapture
made_input names.Attach vs = calls.Attach (number_at vs 0) (number_at vs 1)
made_input names.Detach vs = calls.Detach (number_at vs 0) (number_at vs 1)
made_input names.Mouse vs = calls.Mouse (message_at vs 0) (signed_at vs 1) (signed_at vs 2)
made_input names.Key vs = calls.Key (number_at vs 0) (number_at vs 1)
made_input names.KeyState vs = calls.KeyState (number_at vs 0)
made_input names.BeginDialog vs = calls.BeginDialog (number_at vs 0)
made_input names.DialogState vs = calls.DialogState (number_at vs 0)
made_input names.EndDialog vs = calls.EndDialog (number_at vs 0) (number_at vs 1)
