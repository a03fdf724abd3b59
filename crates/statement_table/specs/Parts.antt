-- The parts of a line by their places, from 0.
use Rattle.std.specs.Prelude.{ℕ, List, Option, Some, slice_get}
use Rattle.script_tree.specs.declared.operand.Letter.{Letter}
use Rattle.script_tree.specs.declared.operand.Letter.TheVariants as letters
use Rattle.script_tree.specs.declared.operand.Operand.{Operand}
use Rattle.script_tree.specs.declared.operand.Operand.TheVariants as operands
use Rattle.script_tree.specs.declared.operand.Operator.{Operator}
use Rattle.script_tree.specs.declared.operand.Operator.TheVariants as operators
use Rattle.script_tree.specs.declared.operand.Comparison.{Comparison}
use Rattle.script_tree.specs.declared.operand.Comparison.TheVariants as comparisons
use Rattle.statement_table.specs.declared.part.Part.{Part}
use Rattle.statement_table.specs.declared.part.Part.TheVariants as parts
use Rattle.statement_table.specs.declared.part.Place.{Place}
use Rattle.statement_table.specs.declared.part.Place.TheVariants as places

-- the place in which a part stands
abbrev pub place_of_part : Part → Place
place_of_part (parts.Letter x) = places.Letter
place_of_part (parts.Operand x) = places.Operand
place_of_part (parts.Operator x) = places.Operator
place_of_part (parts.Comparison x) = places.Comparison
place_of_part (parts.Name x) = places.Name
place_of_part (parts.Beginning x) = places.Beginning
place_of_part (parts.Procedure x) = places.Procedure

-- a part, where it is of that kind; else one that says nothing
abbrev pub as_letter : Option Part → Letter
as_letter (Some (parts.Letter x)) = x
as_letter p = letters.A

abbrev pub as_operand : Option Part → Operand
as_operand (Some (parts.Operand x)) = x
as_operand p = (operands.Number 0)

abbrev pub as_operator : Option Part → Operator
as_operator (Some (parts.Operator x)) = x
as_operator p = operators.Plus

abbrev pub as_comparison : Option Part → Comparison
as_comparison (Some (parts.Comparison x)) = x
as_comparison p = comparisons.Equal

abbrev pub as_name : Option Part → ℕ
as_name (Some (parts.Name x)) = x
as_name p = 0

abbrev pub as_beginning : Option Part → ℕ
as_beginning (Some (parts.Beginning x)) = x
as_beginning p = 0

abbrev pub as_procedure : Option Part → ℕ
as_procedure (Some (parts.Procedure x)) = x
as_procedure p = 0

-- the part at a place, likewise
abbrev pub letter_in : List Part → ℕ → Letter
letter_in ps k = as_letter (slice_get ps k)

abbrev pub operand_in : List Part → ℕ → Operand
operand_in ps k = as_operand (slice_get ps k)

abbrev pub operator_in : List Part → ℕ → Operator
operator_in ps k = as_operator (slice_get ps k)

abbrev pub comparison_in : List Part → ℕ → Comparison
comparison_in ps k = as_comparison (slice_get ps k)

abbrev pub name_in : List Part → ℕ → ℕ
name_in ps k = as_name (slice_get ps k)

abbrev pub beginning_in : List Part → ℕ → ℕ
beginning_in ps k = as_beginning (slice_get ps k)

abbrev pub procedure_in : List Part → ℕ → ℕ
procedure_in ps k = as_procedure (slice_get ps k)
