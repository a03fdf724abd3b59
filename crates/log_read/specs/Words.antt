-- The words of a log.
use Rattle.std.specs.Prelude.{ℕ, List, [], ◌∷◌, ◌++◌, map, codes, decimal, unwrap_or, slice_get, Option, Some, None}
use Rattle.std.specs.Fmt.{signed_decimal}
use Rattle.std.specs.List.{flat_map}
use Rattle.win_num.specs.Codes.{number_of}
use Rattle.name_table.specs.Rows.{name_in}
use Rattle.name_table.specs.Messages.{message_rows}
use Rattle.user_model.specs.declared.call.Call.{Call}
use Rattle.user_model.specs.declared.entry.Answer.{Answer}
use Rattle.user_model.specs.declared.entry.Entry.{Entry}
use Rattle.user_model.specs.declared.entry.SendCount.{SendCount}
use Rattle.call_fields.specs.declared.value.Value.{Value}
use Rattle.call_fields.specs.declared.value.Value.TheVariants as values
use Rattle.call_table.specs.Calls.{call_row, call_name, call_parts}
use Rattle.answer_table.specs.Answers.{answer_row, answer_name, answer_parts}
use Rattle.call_fields.specs.Words.{source_word, cause_word, code_word}
use Rattle.script_tree.specs.Tree.{Tree}
use Rattle.log_text.specs.declared.end.End.{End}
use Rattle.log_text.specs.Endings.{end_word}
use Rattle.log_text.specs.Entries.{procedure_name}
use Rattle.log_text.specs.Frames.{digit, rows}
use Rattle.log_read.specs.declared.log.Extra.{Extra}
use Rattle.log_read.specs.declared.log.Extra.TheVariants as extras
use Rattle.log_read.specs.Logs.{LogEntryTree, LogTree}

-- a message, by its name where it has one
abbrev pub message_word : ℕ → List ℕ
message_word n = unwrap_or (name_in message_rows n) (decimal n)

-- the value of a field, by its kind
abbrev pub value_word : Tree → Value → List ℕ
value_word s (values.Number n) = decimal n
value_word s (values.Message m) = message_word m
value_word s (values.Signed x) = signed_decimal x
value_word s (values.Name n) = unwrap_or (slice_get s.names n) (decimal n)
value_word s (values.Procedure n) = unwrap_or (procedure_name (slice_get s.procedures n)) (decimal n)
value_word s (values.Window w) = decimal w.0
value_word s (values.Send n) = decimal n.0
value_word s (values.Thread t) = decimal t.0
value_word s (values.Count k) = decimal k
value_word s (values.ShortMessage m) = message_word m
value_word s (values.Pixel x) = signed_decimal x
value_word s (values.Byte n) = decimal n
value_word s (values.Source o) = source_word o
value_word s (values.Cause c) = cause_word c
value_word s (values.Code c) = unwrap_or (code_word c) (decimal (number_of c))

-- a call, and what stands behind it
abbrev pub call_words : Tree → Call → List (List ℕ) → List (List ℕ)
call_words s c rest = (call_row (call_name c)).word ∷ (map (value_word s) (call_parts c) ++ rest)

-- an answer
abbrev pub answer_words : Tree → Answer → List (List ℕ)
answer_words s a = (answer_row (answer_name a)).word ∷ map (value_word s) (answer_parts a)

-- the line of an entry
abbrev pub entry_words : Tree → Entry → List (List ℕ)
entry_words s e = decimal e.who.0 ∷ call_words s e.call (codes "=" ∷ answer_words s e.answer)

-- the line of a row of a frame: one word, whose letters are the digits of the colours
abbrev pub row_words : List ℕ → List (List ℕ)
row_words row = map digit row ∷ []

-- the lines of a frame, if there is one
abbrev pub frame_words : Tree → Option (List ℕ) → List (List (List ℕ))
frame_words s None = []
frame_words s (Some colours) = map row_words (rows s.width s.height colours)

-- the lines of an entry: its own, and those of its frame
abbrev pub log_entry_words : Tree → LogEntryTree → List (List (List ℕ))
log_entry_words s e = entry_words s e.entry ∷ frame_words s e.frame

-- the lines of all entries
abbrev pub entries_words : Tree → List LogEntryTree → List (List (List ℕ))
entries_words s es = flat_map (log_entry_words s) es

-- the line of the end
abbrev pub end_words : End → List (List ℕ)
end_words end = codes "end" ∷ end_word end ∷ []

-- an extra line
abbrev pub extra_words : Tree → Extra → List (List ℕ)
extra_words s (extras.Waits t call) = codes "waits" ∷ decimal t.0 ∷ call_words s call []
extra_words s (extras.Spent t) = codes "spent" ∷ decimal t.0 ∷ []

-- the line of the sends
abbrev pub counts_words : SendCount → List (List ℕ)
counts_words c =
    codes "sends" ∷ codes "begun" ∷ decimal c.begun ∷ codes "entered" ∷ decimal c.entered ∷ codes "proc" ∷ decimal c.by_proc ∷ codes "reply" ∷ decimal c.by_reply
    ∷ codes "loss" ∷ decimal c.by_loss ∷ codes "timeout" ∷ decimal c.by_timeout ∷ codes "open" ∷ decimal c.unfinished ∷ []

-- the lines between the first and the last
abbrev pub inner_words : Tree → LogTree → List (List (List ℕ))
inner_words s l = entries_words s l.entries ++ (end_words l.end ∷ map (extra_words s) l.extras)

-- all lines of a log
abbrev pub log_words : Tree → LogTree → List (List (List ℕ))
log_words s l = (codes "log" ∷ codes "1" ∷ []) ∷ (inner_words s l ++ counts_words l.sends ∷ [])
