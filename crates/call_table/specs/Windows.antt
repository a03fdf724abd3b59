-- Calls that make, change or drop windows, one row each.
use Rattle.std.specs.Prelude.{List, [], ◌∷◌, codes, Option, None}
use Rattle.user_model.specs.declared.call.Call.{Call}
use Rattle.user_model.specs.declared.call.Call.TheVariants as calls
use Rattle.call_fields.specs.declared.form.Field.TheVariants as fields
use Rattle.call_fields.specs.declared.value.Value.{Value}
use Rattle.call_fields.specs.declared.value.Value.TheVariants as values
use Rattle.call_fields.specs.Forms.{Row, row}
use Rattle.call_fields.specs.Values.{name_at, number_at, signed_at}
use Rattle.call_table.specs.declared.calls.CallName.{CallName}
use Rattle.call_table.specs.declared.calls.CallName.TheVariants as groups
use Rattle.call_table.specs.declared.windows.WindowCall.{WindowCall}
use Rattle.call_table.specs.declared.windows.WindowCall.TheVariants as names
use Rattle.call_table.specs.Splits.{Split, split}

-- the word of each, and the kinds of its fields
abbrev pub window_row : WindowCall → Row
window_row names.NewWindow = row (codes "new_window") (fields.Name ∷ fields.Name ∷ fields.Number ∷ fields.Number ∷ fields.Number ∷ fields.Signed ∷ fields.Signed ∷ fields.Signed ∷ fields.Signed ∷ [])
window_row names.Doom = row (codes "doom") (fields.Number ∷ [])
window_row names.Unmake = row (codes "unmake") (fields.Number ∷ [])
window_row names.Drop = row (codes "drop") (fields.Number ∷ [])
window_row names.Place = row (codes "place") (fields.Number ∷ fields.Signed ∷ fields.Signed ∷ fields.Signed ∷ fields.Signed ∷ fields.Signed ∷ fields.Number ∷ [])
window_row names.Show = row (codes "show") (fields.Number ∷ fields.Number ∷ [])
window_row names.Enable = row (codes "enable") (fields.Number ∷ fields.Number ∷ [])

-- all of them
abbrev pub window_calls : List CallName
window_calls = groups.Window names.NewWindow ∷ groups.Window names.Doom ∷ groups.Window names.Unmake ∷ groups.Window names.Drop ∷ groups.Window names.Place ∷ groups.Window names.Show ∷ groups.Window names.Enable ∷ []

-- such a call taken apart; a call of another group is not
abbrev pub split_window : Call → Option Split
split_window (calls.NewWindow class title parent style extended left top right bottom) = split (groups.Window names.NewWindow) (values.Name class ∷ values.Name title ∷ values.Number parent ∷ values.Number style ∷ values.Number extended ∷ values.Signed left ∷ values.Signed top ∷ values.Signed right ∷ values.Signed bottom ∷ [])
split_window (calls.Doom window) = split (groups.Window names.Doom) (values.Number window ∷ [])
split_window (calls.Unmake window) = split (groups.Window names.Unmake) (values.Number window ∷ [])
split_window (calls.Drop window) = split (groups.Window names.Drop) (values.Number window ∷ [])
split_window (calls.Place window after left top right bottom flags) = split (groups.Window names.Place) (values.Number window ∷ values.Signed after ∷ values.Signed left ∷ values.Signed top ∷ values.Signed right ∷ values.Signed bottom ∷ values.Number flags ∷ [])
split_window (calls.Show window on) = split (groups.Window names.Show) (values.Number window ∷ values.Number on ∷ [])
split_window (calls.Enable window on) = split (groups.Window names.Enable) (values.Number window ∷ values.Number on ∷ [])
split_window c = None

-- the call of this name, of the values at its places
abbrev pub made_window : WindowCall → List Value → Call
made_window names.NewWindow vs = calls.NewWindow (name_at vs 0) (name_at vs 1) (number_at vs 2) (number_at vs 3) (number_at vs 4) (signed_at vs 5) (signed_at vs 6) (signed_at vs 7) (signed_at vs 8)
made_window names.Doom vs = calls.Doom (number_at vs 0)
made_window names.Unmake vs = calls.Unmake (number_at vs 0)
made_window names.Drop vs = calls.Drop (number_at vs 0)
made_window names.Place vs = calls.Place (number_at vs 0) (signed_at vs 1) (signed_at vs 2) (signed_at vs 3) (signed_at vs 4) (signed_at vs 5) (number_at vs 6)
made_window names.Show vs = calls.Show (number_at vs 0) (number_at vs 1)
made_window names.Enable vs = calls.Enable (number_at vs 0) (number_at vs 1)
