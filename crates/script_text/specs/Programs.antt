-- What the lines of a text are found to say.
use Rattle.std.specs.Prelude.{◌≡◌, ℕ, true, List, length, map}
use Rattle.std.specs.List.{AllByRecursion, zip}
use Rattle.script_tree.specs.Tree.{Tree}
use Rattle.script_lines.specs.declared.line.Line.{Line}
use Rattle.script_lines.specs.LineReading.{word_at}
use Rattle.script_text.specs.declared.parser.Head.{Head}
use Rattle.script_text.specs.declared.reading.Program.{Program}
use Rattle.script_lines.specs.LineLimits.{IsLine}
use Rattle.script_lines.specs.Known.{Known, known_of}
use Rattle.script_lines.specs.NameLimits.{AreKnown, are_in_order, are_procedures_in_order}
use Rattle.script_text.specs.Limits.{is_within}
use Rattle.script_text.specs.Lines.{procedure_of, code_lines, script_lines}
use Rattle.script_text.specs.Nesting.{nests}
use Rattle.script_text.specs.Reading.{width_at, height_at, budget_at, order_at}

-- names and lines within the limits
pub record IsProgram (known : Known) (lines : List Line) : Type 0 where
  pub named : AreKnown known
  pub fits : AllByRecursion IsLine lines
  pub in_order : are_in_order (length known.names) lines ≡ true
  pub procedures_in_order : are_procedures_in_order (length known.procedures) lines ≡ true
  pub nested : nests lines ≡ true

-- the names, those of procedures, and the lines that a reading leaves behind
pub record IsLeft (p : Program) (known : Known) (lines : List Line) : Type 0 where
  pub names : p.names.items ≡ known.names
  pub procedures : p.procedure_names.items ≡ known.procedures
  pub built : code_lines p.bodies.procedures.items p.bodies.threads.items ≡ lines

-- the tree is within all limits of a script but that of its text
pub record IsFitting (s : Tree) : Type 0 where
  pub within : is_within s ≡ true
  pub program : IsProgram (known_of s) (script_lines s)

-- the lines of the head that tell numbers stand at their places among the lines
abbrev pub IsHeadOf : List (List ℕ) → Head → Type 0
IsHeadOf texts head = (word_at texts 1 ≡ head.screen.now) × (word_at texts 2 ≡ head.budget.now) × (word_at texts 3 ≡ head.order.now)

-- the tree with this program whose text has these lines
abbrev pub tree_at : List (List ℕ) → Program → Tree
tree_at texts p = record {
  width = width_at texts;
  height = height_at texts;
  budget = budget_at texts;
  order = order_at texts;
  names = p.names.items;
  procedures = map procedure_of (zip p.procedure_names.items p.bodies.procedures.items);
  threads = p.bodies.threads.items;
}
