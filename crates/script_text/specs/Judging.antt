-- What a fold over the lines of a text keeps.
use Rattle.std.specs.Prelude.{◌≡◌, ℕ, List, [], ◌∷◌, ◌++◌, take, drop, Some}
use Rattle.script_lines.specs.declared.line.Line.{Line}
use Rattle.script_lines.specs.Known.{Known, nothing_known}
use Rattle.script_lines.specs.LineReading.{split_at, texts_of, line_at, lines_at}
use Rattle.script_text.specs.declared.builder.Builder.{Builder}
use Rattle.script_text.specs.declared.fault.Reason.{Reason}
use Rattle.script_text.specs.declared.reading.Reading.{Reading}
use Rattle.script_text.specs.Building.{built_lines, nest_of, IsSound}
use Rattle.script_text.specs.Grammar.{Front, rest_of}
use Rattle.script_text.specs.Nesting.{Nest}
use Rattle.script_text.specs.Refusals.{IsBadText}

-- what stands open in a builder
abbrev pub nest_in : Builder → Nest
nest_in b = nest_of b.procedures.items b.threads.items b.blocks.items

-- the lines that a builder has taken
abbrev pub lines_in : Builder → List Line
lines_in b = built_lines b.procedures.items b.threads.items b.blocks.items

-- a text is the line that was taken behind those before it, and these names are known then
pub record Adds (known : Known) (before : List Line) (text : List ℕ) (after : Known) (behind : List Line) : Type 0 where
  pub line : Line
  pub read : line_at known (split_at 32 text) ≡ Some (line, after)
  pub added : behind ≡ before ++ line ∷ []

-- the reading is that of these lines, and what they say behind the head has been taken
pub record IsReading (texts : List (List ℕ)) (r : Reading) : Type 0 where
  pub front : Front texts r.known (nest_in r.builder) r.threads
  pub sound : IsSound r.builder.procedures.items r.builder.threads.items r.builder.blocks.items
  pub built : lines_at nothing_known (drop 4 texts) ≡ Some (lines_in r.builder, r.known)

-- the text is these lines, each with its line feed, and the reading is that of them
abbrev pub IsReadingOf : List ℕ → Reading → Type 0
IsReadingOf bytes r = (rest_of bytes ≡ []) × IsReading (texts_of bytes) r

-- so many lines are good, and the next one isn't
pub record IsBadAt (texts : List (List ℕ)) (before : ℕ) (reason : Reason) : Type 0 where
  pub known : Known
  pub nest : Nest
  pub threads : ℕ
  pub front : Front (take before texts) known nest threads
  pub bad : IsBadText texts before known nest reason
