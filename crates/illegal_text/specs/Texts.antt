-- The three lines that say what is wrong with a log.
use Rattle.std.specs.Prelude.{ℕ, zero, suc, ◌==◌, if◌then◌else◌, Bool, false, List, [], ◌∷◌, ◌++◌, codes, take, drop, slice_get, Option, Some, None}
use Rattle.win_num.specs.declared.message.Thread.{Thread}
use Rattle.user_io.specs.Text.{operand}
use Rattle.user_model.specs.Past.{Past}
use Rattle.user_model.specs.declared.entry.Setup.{Setup}
use Rattle.script_tree.specs.Tree.{Tree}
use Rattle.log_text.specs.Ends.{setup_of}
use Rattle.log_text.specs.Entries.{call_text, answer_text, entry_line}
use Rattle.log_text.specs.Frames.{shown, row_line}
use Rattle.log_read.specs.Logs.{LogEntryTree, LogTree, log_of}
use Rattle.illegal_text.specs.declared.illegal.Illegal.{Illegal}
use Rattle.illegal_text.specs.declared.illegal.Over.{Over}
use Rattle.illegal_text.specs.declared.illegal.Over.TheVariants as overs
use Rattle.illegal_text.specs.declared.illegal.Why.{Why}
use Rattle.illegal_text.specs.declared.illegal.Why.TheVariants as reasons
use Rattle.illegal_text.specs.declared.lines.EndingLine.{EndingLine}
use Rattle.illegal_text.specs.EndingLines.{ending_lines, line_text}

-- the word of a reason
abbrev pub reason_word : Why → List ℕ
reason_word (reasons.Over over) = codes "over"
reason_word (reasons.Barred t) = codes "barred"
reason_word (reasons.Call call) = codes "call"
reason_word (reasons.Answer a) = codes "answer"
reason_word (reasons.Frame row) = codes "frame"
reason_word (reasons.EndLine k) = codes "end"

-- the word of what leaves no entry to an actor
abbrev pub over_word : Over → List ℕ
over_word overs.Ended = codes "ended"
over_word overs.Spent = codes "spent"
over_word overs.Stop = codes "stop"
over_word overs.Absent = codes "none"

-- the place and the reason
abbrev pub first_line : Illegal → List ℕ
first_line found = codes "illegal" ++ (operand found.place ++ (codes " " ++ (reason_word found.why ++ codes "\n")))

-- the line of an entry, if there is one
abbrev pub entry_text : Tree → Option LogEntryTree → List ℕ
entry_text s None = codes "nothing\n"
entry_text s (Some e) = entry_line s e.entry

-- a row of colours in rows of this width
abbrev pub row_at : ℕ → ℕ → List ℕ → List ℕ
row_at width zero colours = take width colours
row_at width (suc row) colours = row_at width row (drop width colours)

-- the line of a row of a frame, if there is one
abbrev pub frame_row : Tree → Option (List ℕ) → ℕ → List ℕ
frame_row s None row = codes "nothing\n"
frame_row s (Some colours) row = row_line (row_at s.width row colours)

-- that of an entry's frame
abbrev pub found_frame_row : Tree → Option LogEntryTree → ℕ → List ℕ
found_frame_row s None row = codes "nothing\n"
found_frame_row s (Some e) row = frame_row s e.frame row

-- the frame that the newest entry kept, if it kept one
abbrev pub newest_frame : Setup → Past → Option (List ℕ)
newest_frame setup [] = None
newest_frame setup (e ∷ past) = shown setup past e.answer

-- a line after the entries, if there is one
abbrev pub ending_text : Tree → Option EndingLine → List ℕ
ending_text s None = codes "nothing\n"
ending_text s (Some line) = line_text s line

-- what was found: the line of the entry at the place, or a row of its frame, or a line after the entries
abbrev pub found_text : Tree → LogTree → ℕ → Why → List ℕ
found_text s l place (reasons.Frame row) = found_frame_row s (slice_get l.entries place) row
found_text s l place (reasons.EndLine k) = ending_text s (slice_get (ending_lines l) k)
found_text s l place why = entry_text s (slice_get l.entries place)

-- whether the entry is the clock's
abbrev pub is_clock : Option LogEntryTree → Bool
is_clock None = false
is_clock (Some e) = e.entry.who.0 == 0

-- what keeps the actor of the entry from moving: the clock a thread that isn't idle, and a thread that it is idle itself
abbrev pub held_text : Option LogEntryTree → Thread → List ℕ
held_text e t = if is_clock e then codes "busy" ++ (operand t.0 ++ codes "\n") else codes "idle\n"

-- what would be right, after this past
abbrev pub kept_text : Tree → Past → Option LogEntryTree → Why → List ℕ
kept_text s past e (reasons.Over over) = over_word over ++ codes "\n"
kept_text s past e (reasons.Barred t) = held_text e t
kept_text s past e (reasons.Call call) = call_text s call ++ codes "\n"
kept_text s past e (reasons.Answer a) = answer_text s a ++ codes "\n"
kept_text s past e (reasons.Frame row) = frame_row s (newest_frame (setup_of s) past) row
kept_text s past e (reasons.EndLine k) = ending_text s (slice_get (ending_lines (log_of s past)) k)

-- all three
unfoldable pub illegal_text : Tree → Past → LogTree → Illegal → List ℕ
illegal_text s past l found = first_line found ++ (codes "found " ++ (found_text s l found.place found.why ++ (codes "kept " ++ kept_text s past (slice_get l.entries found.place) found.why)))
