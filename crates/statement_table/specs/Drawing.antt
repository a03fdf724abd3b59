-- Statements about the pixels of windows: those that are to be painted, and their colours, one row each.
use Rattle.std.specs.Prelude.{List, [], ◌∷◌, Option, Some, None}
use Rattle.call_table.specs.declared.calls.CallName.TheVariants as groups
use Rattle.call_table.specs.declared.drawing.DrawingCall.{DrawingCall}
use Rattle.call_table.specs.declared.drawing.DrawingCall.TheVariants as names
use Rattle.script_tree.specs.declared.statement.CallStatement.{CallStatement}
use Rattle.script_tree.specs.declared.statement.CallStatement.TheVariants as calls
use Rattle.statement_table.specs.declared.part.Part.{Part}
use Rattle.statement_table.specs.declared.part.Part.TheVariants as parts
use Rattle.statement_table.specs.Parts.{operand_in}
use Rattle.statement_table.specs.Splits.{Split, split}

-- the call that such a statement makes, and its parts in their places; a statement of another group is none
abbrev pub split_drawing : CallStatement → Option Split
split_drawing (calls.Invalidate window left top right bottom erase) = split (groups.Drawing names.Invalidate) (parts.Operand window ∷ parts.Operand left ∷ parts.Operand top ∷ parts.Operand right ∷ parts.Operand bottom ∷ parts.Operand erase ∷ [])
split_drawing (calls.Validate window left top right bottom) = split (groups.Drawing names.Validate) (parts.Operand window ∷ parts.Operand left ∷ parts.Operand top ∷ parts.Operand right ∷ parts.Operand bottom ∷ [])
split_drawing (calls.UpdateRect window) = split (groups.Drawing names.UpdateRect) (parts.Operand window ∷ [])
split_drawing (calls.EndPaint window) = split (groups.Drawing names.EndPaint) (parts.Operand window ∷ [])
split_drawing (calls.Fill window left top right bottom colour) = split (groups.Drawing names.Fill) (parts.Operand window ∷ parts.Operand left ∷ parts.Operand top ∷ parts.Operand right ∷ parts.Operand bottom ∷ parts.Operand colour ∷ [])
split_drawing calls.Snap = split (groups.Drawing names.Snap) []
split_drawing c = None

-- the statement that makes this call, of the parts in their places; none makes `begin_paint` or `erase` by itself
abbrev pub made_drawing : DrawingCall → List Part → Option CallStatement
made_drawing names.Invalidate ps = Some (calls.Invalidate (operand_in ps 0) (operand_in ps 1) (operand_in ps 2) (operand_in ps 3) (operand_in ps 4) (operand_in ps 5))
made_drawing names.Validate ps = Some (calls.Validate (operand_in ps 0) (operand_in ps 1) (operand_in ps 2) (operand_in ps 3) (operand_in ps 4))
made_drawing names.UpdateRect ps = Some (calls.UpdateRect (operand_in ps 0))
made_drawing names.BeginPaint ps = None
made_drawing names.EndPaint ps = Some (calls.EndPaint (operand_in ps 0))
made_drawing names.Fill ps = Some (calls.Fill (operand_in ps 0) (operand_in ps 1) (operand_in ps 2) (operand_in ps 3) (operand_in ps 4) (operand_in ps 5))
made_drawing names.Erase ps = None
made_drawing names.Snap ps = Some calls.Snap
