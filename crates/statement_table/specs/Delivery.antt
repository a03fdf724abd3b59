-- Statements that take, post and hand on messages, and that ask which are there, one row each.
use Rattle.std.specs.Prelude.{List, [], ◌∷◌, Option, Some, None}
use Rattle.call_table.specs.declared.calls.CallName.TheVariants as groups
use Rattle.call_table.specs.declared.delivery.DeliveryCall.{DeliveryCall}
use Rattle.call_table.specs.declared.delivery.DeliveryCall.TheVariants as names
use Rattle.script_tree.specs.declared.statement.CallStatement.{CallStatement}
use Rattle.script_tree.specs.declared.statement.CallStatement.TheVariants as calls
use Rattle.statement_table.specs.declared.part.Part.{Part}
use Rattle.statement_table.specs.declared.part.Part.TheVariants as parts
use Rattle.statement_table.specs.Parts.{operand_in}
use Rattle.statement_table.specs.Splits.{Split, split}

-- the call that such a statement makes, and its parts in their places; a statement of another group is none
abbrev pub split_delivery : CallStatement → Option Split
split_delivery (calls.Peek window min max flags) = split (groups.Delivery names.Peek) (parts.Operand window ∷ parts.Operand min ∷ parts.Operand max ∷ parts.Operand flags ∷ [])
split_delivery (calls.Get window min max) = split (groups.Delivery names.Get) (parts.Operand window ∷ parts.Operand min ∷ parts.Operand max ∷ [])
split_delivery (calls.Post window message wparam lparam) = split (groups.Delivery names.Post) (parts.Operand window ∷ parts.Operand message ∷ parts.Operand wparam ∷ parts.Operand lparam ∷ [])
split_delivery (calls.PostThread thread message wparam lparam) = split (groups.Delivery names.PostThread) (parts.Operand thread ∷ parts.Operand message ∷ parts.Operand wparam ∷ parts.Operand lparam ∷ [])
split_delivery (calls.PostQuit code) = split (groups.Delivery names.PostQuit) (parts.Operand code ∷ [])
split_delivery (calls.Status flags) = split (groups.Delivery names.Status) (parts.Operand flags ∷ [])
split_delivery calls.Dispatch = split (groups.Delivery names.Dispatch) []
split_delivery calls.Translate = split (groups.Delivery names.Translate) []
split_delivery c = None

-- the statement that makes this call, of the parts in their places; none makes the machine's own steps
abbrev pub made_delivery : DeliveryCall → List Part → Option CallStatement
made_delivery names.Peek ps = Some (calls.Peek (operand_in ps 0) (operand_in ps 1) (operand_in ps 2) (operand_in ps 3))
made_delivery names.Get ps = Some (calls.Get (operand_in ps 0) (operand_in ps 1) (operand_in ps 2))
made_delivery names.Post ps = Some (calls.Post (operand_in ps 0) (operand_in ps 1) (operand_in ps 2) (operand_in ps 3))
made_delivery names.PostThread ps = Some (calls.PostThread (operand_in ps 0) (operand_in ps 1) (operand_in ps 2) (operand_in ps 3))
made_delivery names.PostQuit ps = Some (calls.PostQuit (operand_in ps 0))
made_delivery names.Status ps = Some (calls.Status (operand_in ps 0))
made_delivery names.Dispatch ps = Some calls.Dispatch
made_delivery names.Translate ps = Some calls.Translate
