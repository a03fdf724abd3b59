-- Taking a text apart, loosely: a number may have leading zeros, or be too large. Whether the text is
-- the spelling of what was found is seen by spelling it again.
use Rattle.std.specs.Prelude.{ℕ, ◌+◌, ◌-◌, ◌*◌, ◌^◌, min, ◌&&◌, ◌==◌, nat_le, nat_lt, if◌then◌else◌, List, [], ◌∷◌, ◌++◌, length, find, take, slice_index_or, Option, Some, None}
use Rattle.std.specs.List.{slice_split, position_from}
use Rattle.std.specs.Char.{is_ascii_digit}
use Rattle.std.specs.Str.{bytes_eq}
use Rattle.name_table.specs.Rows.{number_in}
use Rattle.name_table.specs.Messages.{message_rows}
use Rattle.name_table.specs.Constants.{constant_rows}
use Rattle.script_tree.specs.declared.operand.Letter.{Letter}
use Rattle.script_tree.specs.declared.operand.Letter.TheVariants as letters
use Rattle.script_tree.specs.declared.operand.Variable.{Variable}
use Rattle.script_tree.specs.declared.operand.Variable.TheVariants as variables
use Rattle.script_tree.specs.declared.operand.Operand.{Operand}
use Rattle.script_tree.specs.declared.operand.Operand.TheVariants as operands
use Rattle.script_tree.specs.declared.operand.Operator.{Operator}
use Rattle.script_tree.specs.declared.operand.Operator.TheVariants as operators
use Rattle.script_tree.specs.declared.operand.Comparison.{Comparison}
use Rattle.script_tree.specs.declared.operand.Comparison.TheVariants as comparisons
use Rattle.script_lines.specs.declared.line.Line.{Line}
use Rattle.statement_table.specs.declared.part.Part.{Part}
use Rattle.statement_table.specs.declared.part.Part.TheVariants as parts
use Rattle.statement_table.specs.declared.part.Place.{Place}
use Rattle.statement_table.specs.declared.part.Place.TheVariants as places
use Rattle.script_lines.specs.Known.{Known}
use Rattle.script_lines.specs.LineParts.{made_line}
use Rattle.script_lines.specs.NameLimits.{is_name}
use Rattle.script_lines.specs.Rows.{command_at, command_places}
use Rattle.script_lines.specs.Words.{letter_word, variable_word, operator_word, comparison_word}

infixl 10 ◌>>=◌
abbrev pub ◌>>=◌ : {A B : Type 0} → Option A → (A → Option B) → Option B
(Some x) >>= f = f x
None >>= f = None

-- ---- words

-- the words of a line, and the lines of a text
abbrev pub split_at : ℕ → List ℕ → List (List ℕ)
split_at byte = slice_split (λ b. b == byte)

-- the word at a place, empty where there is none
abbrev pub word_at : List (List ℕ) → ℕ → List ℕ
word_at words k = slice_index_or words k []

-- a number that goes on with a digit, but not past 2 ^ 64 - 1
abbrev pub next_value : ℕ → ℕ → ℕ
next_value v c = min (min (v * 10) (2 ^ 64 - 1) + (c - 48)) (2 ^ 64 - 1)

-- a number that goes on with the digits at the front
abbrev pub digits_at : ℕ → List ℕ → ℕ
digits_at v [] = v
digits_at v (c ∷ cs) = if is_ascii_digit c then digits_at (next_value v c) cs else v

unfoldable pub number_at : List ℕ → ℕ
number_at word = digits_at 0 word

-- ---- tables

abbrev pub all_letters : List Letter
all_letters = letters.A ∷ letters.B ∷ letters.C ∷ letters.D ∷ letters.E ∷ letters.F ∷ letters.G ∷ letters.H ∷ []

abbrev pub all_variables : List Variable
all_variables =
    variables.Letter letters.A ∷ variables.Letter letters.B ∷ variables.Letter letters.C ∷ variables.Letter letters.D ∷
    variables.Letter letters.E ∷ variables.Letter letters.F ∷ variables.Letter letters.G ∷ variables.Letter letters.H ∷
    variables.Result ∷ variables.Error ∷ variables.GotWindow ∷ variables.GotMessage ∷ variables.GotWparam ∷ variables.GotLparam ∷ variables.GotTime ∷
    variables.Window ∷ variables.Message ∷ variables.Wparam ∷ variables.Lparam ∷ []

abbrev pub all_operators : List Operator
all_operators = operators.Plus ∷ operators.Minus ∷ operators.And ∷ operators.Or ∷ []

abbrev pub all_comparisons : List Comparison
all_comparisons = comparisons.Equal ∷ comparisons.Different ∷ comparisons.Below ∷ []

unfoldable pub letter_at : List ℕ → Option Letter
letter_at word = find (λ v. bytes_eq (letter_word v) word) all_letters

unfoldable pub variable_at : List ℕ → Option Variable
variable_at word = find (λ v. bytes_eq (variable_word v) word) all_variables

unfoldable pub operator_at : List ℕ → Option Operator
operator_at word = find (λ v. bytes_eq (operator_word v) word) all_operators

unfoldable pub comparison_at : List ℕ → Option Comparison
comparison_at word = find (λ v. bytes_eq (comparison_word v) word) all_comparisons

-- ---- operands

-- a number below 0, from its digits
unfoldable pub minus_at : List ℕ → Option Operand
minus_at digits = if nat_le 1 (number_at digits) && nat_le (number_at digits) (2 ^ 63) then Some (operands.Minus (number_at digits)) else None

abbrev pub variable_operand : Option Variable → Option Operand
variable_operand (Some v) = Some (operands.Variable v)
variable_operand None = None

abbrev pub constant_operand : Option ℕ → Option Variable → Option Operand
constant_operand (Some c) v = Some (operands.Constant c)
constant_operand None v = variable_operand v

abbrev pub message_operand : Option ℕ → Option ℕ → Option Variable → Option Operand
message_operand (Some m) c v = Some (operands.Message m)
message_operand None c v = constant_operand c v

-- a message, a constant or a variable
unfoldable pub named_at : List ℕ → Option Operand
named_at word = message_operand (number_in message_rows word) (number_in constant_rows word) (variable_at word)

unfoldable pub operand_at : List ℕ → Option Operand
operand_at [] = None
operand_at (c ∷ cs) = if c == 45 then minus_at cs else (if is_ascii_digit c then Some (operands.Number (number_at (c ∷ cs))) else named_at (c ∷ cs))

-- ---- names

abbrev pub Names : Type 0
Names = List (List ℕ)

-- the place of a name in a list
abbrev pub place_in : Names → List ℕ → Option ℕ
place_in names word = position_from (λ name. bytes_eq name word) 0 names

-- a name that wasn't there goes to the end, where there are fewer than the limit
unfoldable pub new_place : ℕ → Names → List ℕ → Option (ℕ × Names)
new_place limit names word = if is_name word && nat_lt (length names) limit then Some (length names, names ++ word ∷ []) else None

abbrev pub place_or_new : Option ℕ → Names → List ℕ → Option (ℕ × Names)
place_or_new (Some n) names word = Some (n, names)
place_or_new None names word = new_place 1024 names word

abbrev pub with_names : Known → Option (ℕ × Names) → Option (ℕ × Known)
with_names known (Some x) = Some (x.0, record known { names = x.1 })
with_names known None = None

-- the place of a class, a title or a message; a new name goes to the end
unfoldable pub name_at : Known → List ℕ → Option (ℕ × Known)
name_at known word = with_names known (place_or_new (place_in known.names word) known.names word)

abbrev pub absent_or_none : Option ℕ → Names → List ℕ → Option (ℕ × Names)
absent_or_none (Some k) names word = None
absent_or_none None names word = new_place 64 names word

abbrev pub with_procedures : Known → Option (ℕ × Names) → Option (ℕ × Known)
with_procedures known (Some x) = Some (x.0, record known { procedures = x.1 })
with_procedures known None = None

-- the place of a procedure that begins: its name goes to the end, and must be new
unfoldable pub begun_at : Known → List ℕ → Option (ℕ × Known)
begun_at known word = with_procedures known (absent_or_none (place_in known.procedures word) known.procedures word)

-- the place of a procedure that has begun
unfoldable pub procedure_at : Known → List ℕ → Option ℕ
procedure_at known word = place_in known.procedures word

-- ---- lines

-- the part that a word is in a place, and the names with the one in it
abbrev pub part_at : Known → Place → List ℕ → Option (Part × Known)
part_at known places.Letter word = letter_at word >>= λ v. Some (parts.Letter v, known)
part_at known places.Operand word = operand_at word >>= λ a. Some (parts.Operand a, known)
part_at known places.Operator word = operator_at word >>= λ op. Some (parts.Operator op, known)
part_at known places.Comparison word = comparison_at word >>= λ c. Some (parts.Comparison c, known)
part_at known places.Name word = name_at known word >>= λ x. Some (parts.Name x.0, x.1)
part_at known places.Beginning word = begun_at known word >>= λ x. Some (parts.Beginning x.0, x.1)
part_at known places.Procedure word = procedure_at known word >>= λ k. Some (parts.Procedure k, known)

-- the parts that the words from one on are in their places, and the names with those in them
unfoldable pub parts_from : Known → List Place → List (List ℕ) → ℕ → Option (List Part × Known)
parts_from known [] words k = Some ([], known)
parts_from known (place ∷ more) words k = part_at known place (word_at words k) >>= λ first. parts_from first.1 more words (k + 1) >>= λ others. Some (first.0 ∷ others.0, others.1)

-- the line with these words, and the names with those in it: its row is found by the first word, and what stands in its places are the others; words that are too many are passed over
unfoldable pub line_at : Known → List (List ℕ) → Option (Line × Known)
line_at known words = command_at (word_at words 0) (length words) >>= λ command. parts_from known (command_places command) words 1 >>= λ x. made_line command x.0 >>= λ l. Some (l, x.1)

-- the lines, and the names with those in them
unfoldable pub lines_at : Known → List (List ℕ) → Option (List Line × Known)
lines_at known [] = Some ([], known)
lines_at known (text ∷ more) = line_at known (split_at 32 text) >>= λ first. lines_at first.1 more >>= λ others. Some (first.0 ∷ others.0, others.1)

-- ---- texts

-- the lines of a text, without what stands behind the last line feed
unfoldable pub texts_of : List ℕ → List (List ℕ)
texts_of bytes = take (length (split_at 10 bytes) - 1) (split_at 10 bytes)
