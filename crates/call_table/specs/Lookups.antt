-- Calls that look for windows, one row each.
use Rattle.std.specs.Prelude.{List, [], ◌∷◌, codes, Option, None}
use Rattle.user_model.specs.declared.call.Call.{Call}
use Rattle.user_model.specs.declared.call.Call.TheVariants as calls
use Rattle.call_fields.specs.declared.form.Field.TheVariants as fields
use Rattle.call_fields.specs.declared.value.Value.{Value}
use Rattle.call_fields.specs.declared.value.Value.TheVariants as values
use Rattle.call_fields.specs.Forms.{Row, row}
use Rattle.call_fields.specs.Values.{name_at, number_at, signed_at}
use Rattle.call_table.specs.declared.calls.CallName.{CallName}
use Rattle.call_table.specs.declared.calls.CallName.TheVariants as groups
use Rattle.call_table.specs.declared.lookups.LookupCall.{LookupCall}
use Rattle.call_table.specs.declared.lookups.LookupCall.TheVariants as names
use Rattle.call_table.specs.Splits.{Split, split}

-- the word of each, and the kinds of its fields
abbrev pub lookup_row : LookupCall → Row
lookup_row names.Find = row (codes "find") (fields.Name ∷ [])
lookup_row names.AwaitTitle = row (codes "await_title") (fields.Name ∷ [])
lookup_row names.NextTop = row (codes "next_top") (fields.Number ∷ [])
lookup_row names.ChildAfter = row (codes "child_after") (fields.Number ∷ fields.Number ∷ [])
lookup_row names.StyleOf = row (codes "style_of") (fields.Number ∷ [])
lookup_row names.WindowAt = row (codes "window_at") (fields.Signed ∷ fields.Signed ∷ [])
lookup_row names.IsWindow = row (codes "is_window") (fields.Number ∷ [])
lookup_row names.Parent = row (codes "parent") (fields.Number ∷ [])

-- all of them
abbrev pub lookup_calls : List CallName
lookup_calls = groups.Lookup names.Find ∷ groups.Lookup names.AwaitTitle ∷ groups.Lookup names.NextTop ∷ groups.Lookup names.ChildAfter ∷ groups.Lookup names.StyleOf ∷ groups.Lookup names.WindowAt ∷ groups.Lookup names.IsWindow ∷ groups.Lookup names.Parent ∷ []

-- such a call taken apart; a call of another group is not
abbrev pub split_lookup : Call → Option Split
split_lookup (calls.Find title) = split (groups.Lookup names.Find) (values.Name title ∷ [])
split_lookup (calls.AwaitTitle title) = split (groups.Lookup names.AwaitTitle) (values.Name title ∷ [])
split_lookup (calls.NextTop window) = split (groups.Lookup names.NextTop) (values.Number window ∷ [])
split_lookup (calls.ChildAfter window child) = split (groups.Lookup names.ChildAfter) (values.Number window ∷ values.Number child ∷ [])
split_lookup (calls.StyleOf window) = split (groups.Lookup names.StyleOf) (values.Number window ∷ [])
split_lookup (calls.WindowAt x y) = split (groups.Lookup names.WindowAt) (values.Signed x ∷ values.Signed y ∷ [])
split_lookup (calls.IsWindow window) = split (groups.Lookup names.IsWindow) (values.Number window ∷ [])
split_lookup (calls.Parent window) = split (groups.Lookup names.Parent) (values.Number window ∷ [])
split_lookup c = None

-- the call of this name, of the values at its places
abbrev pub made_lookup : LookupCall → List Value → Call
made_lookup names.Find vs = calls.Find (name_at vs 0)
made_lookup names.AwaitTitle vs = calls.AwaitTitle (name_at vs 0)
made_lookup names.NextTop vs = calls.NextTop (number_at vs 0)
made_lookup names.ChildAfter vs = calls.ChildAfter (number_at vs 0) (number_at vs 1)
made_lookup names.StyleOf vs = calls.StyleOf (number_at vs 0)
made_lookup names.WindowAt vs = calls.WindowAt (signed_at vs 0) (signed_at vs 1)
made_lookup names.IsWindow vs = calls.IsWindow (number_at vs 0)
made_lookup names.Parent vs = calls.Parent (number_at vs 0)
