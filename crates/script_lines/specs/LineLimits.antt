-- Which lines a script may have.
use Rattle.std.specs.Prelude.{◌^◌, ◌≤◌, ◌<◌, IsSome, ⊤}
use Rattle.std.specs.List.{AllByRecursion}
use Rattle.name_table.specs.Rows.{name_in}
use Rattle.name_table.specs.Messages.{message_rows}
use Rattle.name_table.specs.Constants.{constant_rows}
use Rattle.script_tree.specs.declared.operand.Operand.{Operand}
use Rattle.script_tree.specs.declared.operand.Operand.TheVariants.{Number, Minus, Message, Constant, Variable}
use Rattle.script_lines.specs.declared.line.Line.{Line}
use Rattle.statement_table.specs.declared.part.Part.{Part}
use Rattle.statement_table.specs.declared.part.Part.TheVariants as parts
use Rattle.script_lines.specs.LineParts.{line_parts}

-- its number is in range, and its name is one of the table's
abbrev pub IsOperand : Operand → Type 0
IsOperand (Number n) = n < 2 ^ 64
IsOperand (Minus n) = (0 < n) × (n ≤ 2 ^ 63)
IsOperand (Message m) = IsSome (name_in message_rows m)
IsOperand (Constant c) = IsSome (name_in constant_rows c)
IsOperand (Variable v) = ⊤

abbrev pub IsPart : Part → Type 0
IsPart (parts.Operand a) = IsOperand a
IsPart p = ⊤

-- all its operands are in range
abbrev pub IsLine : Line → Type 0
IsLine l = AllByRecursion IsPart (line_parts l)
