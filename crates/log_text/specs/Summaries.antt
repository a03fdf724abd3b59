-- The summary of a run that was made from a number.
use Rattle.std.specs.Prelude.{ℕ, List, ◌++◌, length, codes}
use Rattle.user_io.specs.Text.{operand}
use Rattle.user_model.specs.declared.entry.SendCount.{SendCount}
use Rattle.user_model.specs.Past.{Past}
use Rattle.user_model.specs.Counts.{send_count}
use Rattle.user_model.specs.Places.{clock}
use Rattle.log_text.specs.declared.end.End.{End}
use Rattle.log_text.specs.Endings.{end_line, counts_line}

-- a word and a number, on a line
abbrev pub count_line : List ℕ → ℕ → List ℕ
count_line word n = word ++ (operand n ++ codes "\n")

-- that number, how many entries there are, the clock, how the run ended and these counts of sends
unfoldable pub summary_with : ℕ → Past → End → SendCount → List ℕ
summary_with n past end count = count_line (codes "made") n ++ (count_line (codes "entries") (length past) ++ (count_line (codes "clock") (clock past) ++ (end_line end ++ counts_line count)))

-- the same with the counts of the past
abbrev pub summary : ℕ → Past → End → List ℕ
summary n past end = summary_with n past end (send_count past)
