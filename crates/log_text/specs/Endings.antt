-- The lines after the entries.
use Rattle.std.specs.Prelude.{ℕ, if◌then◌else◌, List, [], ◌++◌, length, Option, Some, None, codes}
use Rattle.user_model.specs.declared.call.Call.{Call}
use Rattle.user_model.specs.declared.entry.Entry.{Entry}
use Rattle.user_model.specs.declared.entry.SendCount.{SendCount}
use Rattle.user_model.specs.Past.{Past}
use Rattle.user_model.specs.Counts.{send_count}
use Rattle.user_model.specs.Places.{has_ended}
use Rattle.user_model.specs.Threads.{from_each}
use Rattle.user_model.specs.Idle.{is_barred, last_entry}
use Rattle.user_io.specs.Text.{operand}
use Rattle.script_tree.specs.Tree.{Tree}
use Rattle.log_text.specs.declared.end.End.{End}
use Rattle.log_text.specs.declared.end.End.TheVariants.{Done, Stuck, Spent, Cut}
use Rattle.log_text.specs.Ends.{setup_of}
use Rattle.log_text.specs.Entries.{counted, call_text}

-- the word of an end
abbrev pub end_word : End → List ℕ
end_word Done = codes "done"
end_word Stuck = codes "stuck"
end_word Spent = codes "spent"
end_word Cut = codes "cut"

-- its line
abbrev pub end_line : End → List ℕ
end_line end = codes "end " ++ (end_word end ++ codes "\n")

-- the call of an entry, if there is one
abbrev pub call_in : Option Entry → Option Call
call_in None = None
call_in (Some e) = Some e.call

-- the last call of a thread
abbrev pub last_call : Past → ℕ → Option Call
last_call past t = call_in (last_entry past t)

-- a thread that waits, with its last call
abbrev pub waits_line : Tree → ℕ → Option Call → List ℕ
waits_line s t None = []
waits_line s t (Some call) = codes "waits" ++ (operand t ++ (codes " " ++ (call_text s call ++ codes "\n")))

-- a thread that has used up its budget
abbrev pub spent_line : ℕ → List ℕ
spent_line t = codes "spent" ++ (operand t ++ codes "\n")

-- the extra line of a thread: where all is stuck and it hasn't ended, its call; where budgets are spent and it isn't idle, its number
abbrev pub extra : Tree → Past → End → ℕ → List ℕ
extra s past Done t = []
extra s past Stuck t = if has_ended past t then [] else waits_line s t (last_call past t)
extra s past Spent t = if is_barred (setup_of s) past t then [] else spent_line t
extra s past Cut t = []

-- those of all threads, in order
abbrev pub extras : Tree → Past → End → List ℕ
extras s past end = from_each (extra s past end) (length s.threads)

-- how many sends were answered, by cause
abbrev pub causes_text : SendCount → List ℕ
causes_text c = counted (codes " proc") c.by_proc ++ (counted (codes " reply") c.by_reply ++ (counted (codes " loss") c.by_loss ++ counted (codes " timeout") c.by_timeout))

-- the counts of sends: all, those entered, those answered and those unfinished
abbrev pub counts_line : SendCount → List ℕ
counts_line c = counted (codes "sends begun") c.begun ++ (counted (codes " entered") c.entered ++ (causes_text c ++ (counted (codes " open") c.unfinished ++ codes "\n")))

-- the same of a past
abbrev pub sends_line : Past → List ℕ
sends_line past = counts_line (send_count past)

-- the word of the end, the extra lines and the counts of sends
abbrev pub ending : Tree → Past → End → List ℕ
ending s past end = end_line end ++ (extras s past end ++ sends_line past)
