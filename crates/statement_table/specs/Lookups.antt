-- Statements that look for windows, one row each.
use Rattle.std.specs.Prelude.{List, [], ◌∷◌, Option, Some, None}
use Rattle.call_table.specs.declared.calls.CallName.TheVariants as groups
use Rattle.call_table.specs.declared.lookups.LookupCall.{LookupCall}
use Rattle.call_table.specs.declared.lookups.LookupCall.TheVariants as names
use Rattle.script_tree.specs.declared.statement.CallStatement.{CallStatement}
use Rattle.script_tree.specs.declared.statement.CallStatement.TheVariants as calls
use Rattle.statement_table.specs.declared.part.Part.{Part}
use Rattle.statement_table.specs.declared.part.Part.TheVariants as parts
use Rattle.statement_table.specs.Parts.{name_in, operand_in}
use Rattle.statement_table.specs.Splits.{Split, split}

-- the call that such a statement makes, and its parts in their places; a statement of another group is none
abbrev pub split_lookup : CallStatement → Option Split
split_lookup (calls.Find title) = split (groups.Lookup names.Find) (parts.Name title ∷ [])
split_lookup (calls.AwaitTitle title) = split (groups.Lookup names.AwaitTitle) (parts.Name title ∷ [])
split_lookup (calls.NextTop window) = split (groups.Lookup names.NextTop) (parts.Operand window ∷ [])
split_lookup (calls.WindowAt x y) = split (groups.Lookup names.WindowAt) (parts.Operand x ∷ parts.Operand y ∷ [])
split_lookup (calls.IsWindow window) = split (groups.Lookup names.IsWindow) (parts.Operand window ∷ [])
split_lookup (calls.Parent window) = split (groups.Lookup names.Parent) (parts.Operand window ∷ [])
split_lookup c = None

-- the statement that makes this call, of the parts in their places; none makes the machine's own steps, and none asks for a child or a style
abbrev pub made_lookup : LookupCall → List Part → Option CallStatement
made_lookup names.Find ps = Some (calls.Find (name_in ps 0))
made_lookup names.AwaitTitle ps = Some (calls.AwaitTitle (name_in ps 0))
made_lookup names.NextTop ps = Some (calls.NextTop (operand_in ps 0))
made_lookup names.WindowAt ps = Some (calls.WindowAt (operand_in ps 0) (operand_in ps 1))
made_lookup names.IsWindow ps = Some (calls.IsWindow (operand_in ps 0))
made_lookup names.Parent ps = Some (calls.Parent (operand_in ps 0))
made_lookup names.ChildAfter ps = None
made_lookup names.StyleOf ps = None
