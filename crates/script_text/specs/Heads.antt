-- Whether a text is a line before the procedures and threads: its numbers are found, and it is spelled again.
use Rattle.std.specs.Prelude.{ℕ, Bool, ◌&&◌, List, map, drop}
use Rattle.std.specs.Str.{bytes_eq}
use Rattle.script_lines.specs.LineReading.{number_at, split_at}
use Rattle.script_text.specs.declared.head.HeadLine.{HeadLine}
use Rattle.script_text.specs.Grammar.{are_head_numbers, head_text}

-- the numbers behind the first word of a line
abbrev pub numbers_behind : List ℕ → List ℕ
numbers_behind text = map number_at (drop 1 (split_at 32 text))

unfoldable pub is_head_text : HeadLine → List ℕ → Bool
is_head_text line text = are_head_numbers line (numbers_behind text) && bytes_eq (head_text line (numbers_behind text)) text
