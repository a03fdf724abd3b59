-- Calls about the pixels of windows: those that are to be painted, and their colours, one row each.
use Rattle.std.specs.Prelude.{List, [], ◌∷◌, codes, Option, None}
use Rattle.user_model.specs.declared.call.Call.{Call}
use Rattle.user_model.specs.declared.call.Call.TheVariants as calls
use Rattle.call_fields.specs.declared.form.Field.TheVariants as fields
use Rattle.call_fields.specs.declared.value.Value.{Value}
use Rattle.call_fields.specs.declared.value.Value.TheVariants as values
use Rattle.call_fields.specs.Forms.{Row, row}
use Rattle.call_fields.specs.Values.{number_at, signed_at}
use Rattle.call_table.specs.declared.calls.CallName.{CallName}
use Rattle.call_table.specs.declared.calls.CallName.TheVariants as groups
use Rattle.call_table.specs.declared.drawing.DrawingCall.{DrawingCall}
use Rattle.call_table.specs.declared.drawing.DrawingCall.TheVariants as names
use Rattle.call_table.specs.Splits.{Split, split}

-- the word of each, and the kinds of its fields
abbrev pub drawing_row : DrawingCall → Row
drawing_row names.Invalidate = row (codes "invalidate") (fields.Number ∷ fields.Signed ∷ fields.Signed ∷ fields.Signed ∷ fields.Signed ∷ fields.Number ∷ [])
drawing_row names.Validate = row (codes "validate") (fields.Number ∷ fields.Signed ∷ fields.Signed ∷ fields.Signed ∷ fields.Signed ∷ [])
drawing_row names.UpdateRect = row (codes "update_rect") (fields.Number ∷ [])
drawing_row names.BeginPaint = row (codes "begin_paint") (fields.Number ∷ [])
drawing_row names.EndPaint = row (codes "end_paint") (fields.Number ∷ [])
drawing_row names.Fill = row (codes "fill") (fields.Number ∷ fields.Signed ∷ fields.Signed ∷ fields.Signed ∷ fields.Signed ∷ fields.Number ∷ [])
drawing_row names.Erase = row (codes "erase") (fields.Number ∷ [])
drawing_row names.Snap = row (codes "snap") []

-- all of them
abbrev pub drawing_calls : List CallName
drawing_calls = groups.Drawing names.Invalidate ∷ groups.Drawing names.Validate ∷ groups.Drawing names.UpdateRect ∷ groups.Drawing names.BeginPaint ∷ groups.Drawing names.EndPaint ∷ groups.Drawing names.Fill ∷ groups.Drawing names.Erase ∷ groups.Drawing names.Snap ∷ []

-- such a call taken apart; a call of another group is not
abbrev pub split_drawing : Call → Option Split
split_drawing (calls.Invalidate window left top right bottom erase) = split (groups.Drawing names.Invalidate) (values.Number window ∷ values.Signed left ∷ values.Signed top ∷ values.Signed right ∷ values.Signed bottom ∷ values.Number erase ∷ [])
split_drawing (calls.Validate window left top right bottom) = split (groups.Drawing names.Validate) (values.Number window ∷ values.Signed left ∷ values.Signed top ∷ values.Signed right ∷ values.Signed bottom ∷ [])
split_drawing (calls.UpdateRect window) = split (groups.Drawing names.UpdateRect) (values.Number window ∷ [])
split_drawing (calls.BeginPaint window) = split (groups.Drawing names.BeginPaint) (values.Number window ∷ [])
split_drawing (calls.EndPaint window) = split (groups.Drawing names.EndPaint) (values.Number window ∷ [])
split_drawing (calls.Fill window left top right bottom colour) = split (groups.Drawing names.Fill) (values.Number window ∷ values.Signed left ∷ values.Signed top ∷ values.Signed right ∷ values.Signed bottom ∷ values.Number colour ∷ [])
split_drawing (calls.Erase window) = split (groups.Drawing names.Erase) (values.Number window ∷ [])
split_drawing calls.Snap = split (groups.Drawing names.Snap) []
split_drawing c = None

-- the call of this name, of the values at its places
abbrev pub made_drawing : DrawingCall → List Value → Call
made_drawing names.Invalidate vs = calls.Invalidate (number_at vs 0) (signed_at vs 1) (signed_at vs 2) (signed_at vs 3) (signed_at vs 4) (number_at vs 5)
made_drawing names.Validate vs = calls.Validate (number_at vs 0) (signed_at vs 1) (signed_at vs 2) (signed_at vs 3) (signed_at vs 4)
made_drawing names.UpdateRect vs = calls.UpdateRect (number_at vs 0)
made_drawing names.BeginPaint vs = calls.BeginPaint (number_at vs 0)
made_drawing names.EndPaint vs = calls.EndPaint (number_at vs 0)
made_drawing names.Fill vs = calls.Fill (number_at vs 0) (signed_at vs 1) (signed_at vs 2) (signed_at vs 3) (signed_at vs 4) (number_at vs 5)
made_drawing names.Erase vs = calls.Erase (number_at vs 0)
made_drawing names.Snap vs = calls.Snap
