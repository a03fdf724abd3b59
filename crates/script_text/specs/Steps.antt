-- One line more of procedures and threads.
use Rattle.std.specs.Prelude.{◌≡◌, ℕ, ◌+◌, ◌≤◌, List, length, Some}
use Rattle.script_lines.specs.declared.line.Line.{Line}
use Rattle.script_lines.specs.Known.{Known}
use Rattle.script_lines.specs.LineLimits.{IsLine}
use Rattle.script_lines.specs.LineParts.{line_parts}
use Rattle.script_lines.specs.LineReading.{split_at, line_at}
use Rattle.script_lines.specs.LineTexts.{joined}
use Rattle.script_lines.specs.NameLimits.{seen_after, begun_after}
use Rattle.script_lines.specs.Words.{line_words}
use Rattle.script_text.specs.Grammar.{thread_of}
use Rattle.script_text.specs.Nesting.{Nest, nested}

-- the text is a line that can stand behind lines with these names, this that stands open and so many threads; what is known, what stands open and how many threads have begun behind it
pub record IsStep (known : Known) (nest : Nest) (threads : ℕ) (text : List ℕ) (after : Known) (behind : Nest) (begun : ℕ) : Type 0 where
  pub line : Line
  pub read : line_at known (split_at 32 text) ≡ Some (line, after)
  pub fits : IsLine line
  pub spelled : joined (line_words after line) ≡ text
  pub in_order : seen_after (length after.names) (Some (length known.names)) (line_parts line) ≡ Some (length after.names)
  pub procedures_in_order : begun_after (length after.procedures) (Some (length known.procedures)) (line_parts line) ≡ Some (length after.procedures)
  pub nests : nested nest line ≡ Some behind
  pub counted : threads + thread_of line ≡ begun
  pub few : begun ≤ 15

-- no line that can stand there has this text
abbrev pub IsNoStep : Known → Nest → ℕ → List ℕ → Type 0
IsNoStep known nest threads text = (after : Known) (behind : Nest) (begun : ℕ) → IsStep known nest threads text after behind begun → ⊥
