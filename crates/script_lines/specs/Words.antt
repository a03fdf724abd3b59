-- The words of a script.
use Rattle.std.specs.Prelude.{ℕ, List, [], ◌∷◌, map, codes, decimal, unwrap_or, slice_index_or}
use Rattle.name_table.specs.Rows.{name_in}
use Rattle.name_table.specs.Messages.{message_rows}
use Rattle.name_table.specs.Constants.{constant_rows}
use Rattle.script_tree.specs.declared.operand.Letter.{Letter}
use Rattle.script_tree.specs.declared.operand.Letter.TheVariants as letters
use Rattle.script_tree.specs.declared.operand.Variable.{Variable}
use Rattle.script_tree.specs.declared.operand.Variable.TheVariants as variables
use Rattle.script_tree.specs.declared.operand.Operand.{Operand}
use Rattle.script_tree.specs.declared.operand.Operand.TheVariants as operands
use Rattle.script_tree.specs.declared.operand.Operator.{Operator}
use Rattle.script_tree.specs.declared.operand.Operator.TheVariants as operators
use Rattle.script_tree.specs.declared.operand.Comparison.{Comparison}
use Rattle.script_tree.specs.declared.operand.Comparison.TheVariants as comparisons
use Rattle.script_lines.specs.declared.line.Line.{Line}
use Rattle.statement_table.specs.declared.part.Part.{Part}
use Rattle.statement_table.specs.declared.part.Part.TheVariants as parts
use Rattle.script_lines.specs.Known.{Known}
use Rattle.script_lines.specs.LineParts.{line_command, line_parts}
use Rattle.script_lines.specs.Rows.{command_word}

abbrev pub letter_word : Letter → List ℕ
letter_word letters.A = codes "a"
letter_word letters.B = codes "b"
letter_word letters.C = codes "c"
letter_word letters.D = codes "d"
letter_word letters.E = codes "e"
letter_word letters.F = codes "f"
letter_word letters.G = codes "g"
letter_word letters.H = codes "h"

abbrev pub variable_word : Variable → List ℕ
variable_word (variables.Letter letter) = letter_word letter
variable_word variables.Result = codes "r"
variable_word variables.Error = codes "err"
variable_word variables.GotWindow = codes "ghwnd"
variable_word variables.GotMessage = codes "gmsg"
variable_word variables.GotWparam = codes "gwp"
variable_word variables.GotLparam = codes "glp"
variable_word variables.GotTime = codes "gtime"
variable_word variables.Window = codes "hwnd"
variable_word variables.Message = codes "msg"
variable_word variables.Wparam = codes "wp"
variable_word variables.Lparam = codes "lp"

abbrev pub operator_word : Operator → List ℕ
operator_word operators.Plus = codes "+"
operator_word operators.Minus = codes "-"
operator_word operators.And = codes "&"
operator_word operators.Or = codes "|"

abbrev pub comparison_word : Comparison → List ℕ
comparison_word comparisons.Equal = codes "="
comparison_word comparisons.Different = codes "!="
comparison_word comparisons.Below = codes "<"

-- a number in decimal, with its sign where it is below 0, or a name
abbrev pub operand_word : Operand → List ℕ
operand_word (operands.Number n) = decimal n
operand_word (operands.Minus n) = 45 ∷ decimal n
operand_word (operands.Message m) = unwrap_or (name_in message_rows m) []
operand_word (operands.Constant c) = unwrap_or (name_in constant_rows c) []
operand_word (operands.Variable v) = variable_word v

-- a word after the first, where the script has these names
abbrev pub part_word : Known → Part → List ℕ
part_word known (parts.Letter v) = letter_word v
part_word known (parts.Operand a) = operand_word a
part_word known (parts.Operator op) = operator_word op
part_word known (parts.Comparison c) = comparison_word c
part_word known (parts.Name n) = slice_index_or known.names n []
part_word known (parts.Beginning k) = slice_index_or known.procedures k []
part_word known (parts.Procedure k) = slice_index_or known.procedures k []

-- the words of a line
abbrev pub line_words : Known → Line → List (List ℕ)
line_words known l = command_word (line_command l) ∷ map (part_word known) (line_parts l)
