-- The line for people.
use Rattle.std.specs.Prelude.{ℕ, ◌-◌, ◌||◌, nat_lt, nat_le, if◌then◌else◌, List, [], ◌++◌, length, map, take, codes}
use Rattle.user_io.specs.Text.{operand}
use Rattle.script_lines.specs.LineReading.{split_at, word_at}
use Rattle.script_text.specs.declared.fault.Reason.{Reason}
use Rattle.script_text.specs.declared.fault.Reason.TheVariants as reasons
use Rattle.script_text.specs.declared.fault.Refusal.{Refusal}

-- a byte as it is shown
abbrev pub shown_byte : ℕ → ℕ
shown_byte b = if nat_lt b 32 || nat_lt 126 b then 63 else b

-- a text as it is shown: at most 60 bytes of it
abbrev pub shown : List ℕ → List ℕ
shown text = if nat_le (length text) 60 then map shown_byte text else map shown_byte (take 60 text) ++ codes ".."

abbrev pub quoted : List ℕ → List ℕ
quoted text = codes "'" ++ (shown text ++ codes "'")

-- the line of this number, from 1 on
abbrev pub line_of : List ℕ → ℕ → List ℕ
line_of text n = word_at (split_at 10 text) (n - 1)

-- where it is: the number of the line and the line itself, the number alone where the text ends too early, and nothing where it is too long
abbrev pub place_text : List ℕ → Refusal → Reason → List ℕ
place_text text r reasons.Long = []
place_text text r reasons.End = codes "line" ++ (operand r.line ++ codes ": ")
place_text text r reason = codes "line" ++ (operand r.line ++ (codes ": " ++ (quoted (line_of text r.line) ++ codes ": ")))

-- the whole line, with what was expected there
abbrev pub hint_text : List ℕ → Refusal → List ℕ → List ℕ
hint_text text r expected = place_text text r r.reason ++ (expected ++ codes "\n")
