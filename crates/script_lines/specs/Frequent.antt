-- Lines of statements that name nothing, each the one spelling of what it says.
use Rattle.std.specs.Prelude.{◌≡◌, ℕ, List, Option}
use Rattle.script_tree.specs.declared.operand.Operand.{Operand}
use Rattle.script_tree.specs.declared.statement.CallStatement.{CallStatement}
use Rattle.script_lines.specs.declared.line.Line.{Line}
use Rattle.script_lines.specs.declared.line.Line.TheVariants as lines
use Rattle.script_lines.specs.Known.{Known}
use Rattle.script_lines.specs.LineLimits.{IsOperand, IsLine}
use Rattle.script_lines.specs.LineParts.{line_parts}
use Rattle.script_lines.specs.NameLimits.{seen_after, begun_after}
use Rattle.script_lines.specs.Words.{operand_word, line_words}

-- the word is the spelling of the operand, which is in range
abbrev pub IsExact : List ℕ → Operand → Type 0
IsExact word a = (operand_word a ≡ word) × IsOperand a

-- a statement of a call with these words, whatever names are known: it names nothing, and its operands are in range
pub record IsFrequent (words : List (List ℕ)) (l : Line) : Type 0 where
  pub call : CallStatement
  pub is : l ≡ lines.Call call
  pub spelled : (known : Known) → line_words known l ≡ words
  pub fits : IsLine l
  pub unnamed : (count : ℕ) (o : Option ℕ) → seen_after count o (line_parts l) ≡ o
  pub unbegun : (count : ℕ) (o : Option ℕ) → begun_after count o (line_parts l) ≡ o
