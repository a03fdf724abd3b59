-- Statements on focus, active window, capture, attached threads, the mouse, keys and dialogs, one row each.
use Rattle.std.specs.Prelude.{List, [], ◌∷◌, Option, Some, None}
use Rattle.call_table.specs.declared.calls.CallName.TheVariants as groups
use Rattle.call_table.specs.declared.input.InputCall.{InputCall}
use Rattle.call_table.specs.declared.input.InputCall.TheVariants as names
use Rattle.script_tree.specs.declared.statement.CallStatement.{CallStatement}
use Rattle.script_tree.specs.declared.statement.CallStatement.TheVariants as calls
use Rattle.statement_table.specs.declared.part.Part.{Part}
use Rattle.statement_table.specs.declared.part.Part.TheVariants as parts
use Rattle.statement_table.specs.Parts.{operand_in}
use Rattle.statement_table.specs.Splits.{Split, split}

-- the call that such a statement makes, and its parts in their places; a statement of another group is none
abbrev pub split_input : CallStatement → Option Split
split_input calls.GetFocus = split (groups.Input names.GetFocus) []
split_input calls.GetActive = split (groups.Input names.GetActive) []
split_input calls.GetCapture = split (groups.Input names.GetCapture) []
split_input (calls.Attach thread other) = split (groups.Input names.Attach) (parts.Operand thread ∷ parts.Operand other ∷ [])
split_input (calls.Detach thread other) = split (groups.Input names.Detach) (parts.Operand thread ∷ parts.Operand other ∷ [])
split_input (calls.Mouse number x y) = split (groups.Input names.Mouse) (parts.Operand number ∷ parts.Operand x ∷ parts.Operand y ∷ [])
split_input (calls.Key down key) = split (groups.Input names.Key) (parts.Operand down ∷ parts.Operand key ∷ [])
split_input (calls.KeyState key) = split (groups.Input names.KeyState) (parts.Operand key ∷ [])
split_input (calls.EndDialog window result) = split (groups.Input names.EndDialog) (parts.Operand window ∷ parts.Operand result ∷ [])
split_input c = None

-- the statement that makes this call, of the parts in their places; none sets a window by its call alone, and none begins a dialog so or asks for its state
abbrev pub made_input : InputCall → List Part → Option CallStatement
made_input names.SetFocus ps = None
made_input names.SetActive ps = None
made_input names.SetCapture ps = None
made_input names.ReleaseCapture ps = None
made_input names.GetFocus ps = Some calls.GetFocus
made_input names.GetActive ps = Some calls.GetActive
made_input names.GetCapture ps = Some calls.GetCapture
made_input names.Attach ps = Some (calls.Attach (operand_in ps 0) (operand_in ps 1))
made_input names.Detach ps = Some (calls.Detach (operand_in ps 0) (operand_in ps 1))
made_input names.Mouse ps = Some (calls.Mouse (operand_in ps 0) (operand_in ps 1) (operand_in ps 2))
made_input names.Key ps = Some (calls.Key (operand_in ps 0) (operand_in ps 1))
made_input names.KeyState ps = Some (calls.KeyState (operand_in ps 0))
made_input names.BeginDialog ps = None
made_input names.DialogState ps = None
made_input names.EndDialog ps = Some (calls.EndDialog (operand_in ps 0) (operand_in ps 1))
