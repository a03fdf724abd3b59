-- Statements that send, one row each.
use Rattle.std.specs.Prelude.{List, [], ◌∷◌, Option, Some, None}
use Rattle.call_table.specs.declared.calls.CallName.TheVariants as groups
use Rattle.call_table.specs.declared.sends.SendCall.{SendCall}
use Rattle.call_table.specs.declared.sends.SendCall.TheVariants as names
use Rattle.script_tree.specs.declared.statement.CallStatement.{CallStatement}
use Rattle.script_tree.specs.declared.statement.CallStatement.TheVariants as calls
use Rattle.statement_table.specs.declared.part.Part.{Part}
use Rattle.statement_table.specs.declared.part.Part.TheVariants as parts
use Rattle.statement_table.specs.Parts.{operand_in, procedure_in}
use Rattle.statement_table.specs.Splits.{Split, split}

-- the call that such a statement makes, and its parts in their places; a statement of another group is none
abbrev pub split_send : CallStatement → Option Split
split_send (calls.Send window message wparam lparam) = split (groups.Send names.Send) (parts.Operand window ∷ parts.Operand message ∷ parts.Operand wparam ∷ parts.Operand lparam ∷ [])
split_send (calls.SendTimeout window message wparam lparam flags wait) = split (groups.Send names.SendTimeout) (parts.Operand window ∷ parts.Operand message ∷ parts.Operand wparam ∷ parts.Operand lparam ∷ parts.Operand flags ∷ parts.Operand wait ∷ [])
split_send (calls.SendNotify window message wparam lparam) = split (groups.Send names.SendNotify) (parts.Operand window ∷ parts.Operand message ∷ parts.Operand wparam ∷ parts.Operand lparam ∷ [])
split_send (calls.SendCallback window message wparam lparam procedure extra) = split (groups.Send names.SendCallback) (parts.Operand window ∷ parts.Operand message ∷ parts.Operand wparam ∷ parts.Operand lparam ∷ parts.Procedure procedure ∷ parts.Operand extra ∷ [])
split_send c = None

-- the statement that makes this call, of the parts in their places; none makes the machine's own steps
abbrev pub made_send : SendCall → List Part → Option CallStatement
made_send names.Send ps = Some (calls.Send (operand_in ps 0) (operand_in ps 1) (operand_in ps 2) (operand_in ps 3))
made_send names.SendTimeout ps = Some (calls.SendTimeout (operand_in ps 0) (operand_in ps 1) (operand_in ps 2) (operand_in ps 3) (operand_in ps 4) (operand_in ps 5))
made_send names.SendNotify ps = Some (calls.SendNotify (operand_in ps 0) (operand_in ps 1) (operand_in ps 2) (operand_in ps 3))
made_send names.SendCallback ps = Some (calls.SendCallback (operand_in ps 0) (operand_in ps 1) (operand_in ps 2) (operand_in ps 3) (procedure_in ps 4) (operand_in ps 5))
