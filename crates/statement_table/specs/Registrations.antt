-- Statements that register messages and classes, or take a class back, one row each.
use Rattle.std.specs.Prelude.{List, [], ◌∷◌, Option, Some, None}
use Rattle.call_table.specs.declared.calls.CallName.TheVariants as groups
use Rattle.call_table.specs.declared.registrations.RegistrationCall.{RegistrationCall}
use Rattle.call_table.specs.declared.registrations.RegistrationCall.TheVariants as names
use Rattle.script_tree.specs.declared.statement.CallStatement.{CallStatement}
use Rattle.script_tree.specs.declared.statement.CallStatement.TheVariants as calls
use Rattle.statement_table.specs.declared.part.Part.{Part}
use Rattle.statement_table.specs.declared.part.Part.TheVariants as parts
use Rattle.statement_table.specs.Parts.{name_in, operand_in, procedure_in}
use Rattle.statement_table.specs.Splits.{Split, split}

-- the call that such a statement makes, and its parts in their places; a statement of another group is none
abbrev pub split_registration : CallStatement → Option Split
split_registration (calls.Message name) = split (groups.Registration names.Message) (parts.Name name ∷ [])
split_registration (calls.Register class procedure colour) = split (groups.Registration names.Register) (parts.Name class ∷ parts.Procedure procedure ∷ parts.Operand colour ∷ [])
split_registration (calls.Unregister class) = split (groups.Registration names.Unregister) (parts.Name class ∷ [])
split_registration c = None

-- the statement that makes this call, of the parts in their places; none makes the machine's own steps
abbrev pub made_registration : RegistrationCall → List Part → Option CallStatement
made_registration names.Message ps = Some (calls.Message (name_in ps 0))
made_registration names.Register ps = Some (calls.Register (name_in ps 0) (procedure_in ps 1) (operand_in ps 2))
made_registration names.Unregister ps = Some (calls.Unregister (name_in ps 0))
