-- What each line of a run is as JSON.
use Rattle.std.specs.Prelude.{ℕ, List, [], ◌++◌, codes, decimal, map, Option, Some, None, if◌then◌else◌, length}
use Rattle.serde_json.specs.Data.{Data, string, number, unsigned, array, object, Items, no_items, item, member, no_members}
use Rattle.serde_json.specs.View.{items_of}
use Rattle.serde_json.specs.Written.{compact_text}
use Rattle.user_model.specs.declared.call.Call.{Call}
use Rattle.user_model.specs.declared.entry.Entry.{Entry}
use Rattle.user_model.specs.declared.entry.SendCount.{SendCount}
use Rattle.user_model.specs.Past.{Past}
use Rattle.user_model.specs.Counts.{send_count}
use Rattle.user_model.specs.Places.{has_ended}
use Rattle.user_model.specs.Threads.{from_each}
use Rattle.user_model.specs.Idle.{is_barred}
use Rattle.script_tree.specs.Tree.{Tree}
use Rattle.log_text.specs.declared.end.End.{End}
use Rattle.log_text.specs.declared.end.End.TheVariants.{Done, Stuck, Spent, Cut}
use Rattle.log_text.specs.Ends.{setup_of}
use Rattle.log_text.specs.Entries.{call_text, answer_text}
use Rattle.log_text.specs.Endings.{end_word, last_call}
use Rattle.log_text.specs.Frames.{digit, rows}

-- a value on a line of its own, with no blank
abbrev pub line : Data → List ℕ
line d = compact_text d ++ codes "\n"

-- an object of one member
abbrev pub one_member : List ℕ → Data → Data
one_member key d = object (member key d no_members)

-- an entry: its answer and its call as in the log, and who called
abbrev pub entry_object : Tree → Entry → Data
entry_object s e = object (member (codes "answer") (string (answer_text s e.answer)) (member (codes "call") (string (call_text s e.call)) (member (codes "who") (number (unsigned e.who.0)) no_members)))

-- a row of a frame: the digits of its colours
abbrev pub row_string : List ℕ → Data
row_string row = string (map digit row)

-- a frame of this width and height: its rows, the top one first
abbrev pub frame_object : ℕ → ℕ → List ℕ → Data
frame_object width height colours = one_member (codes "frame") (array (items_of (map row_string (rows width height colours))))

-- the line of a frame on a script's screen, where an entry kept one
abbrev pub frame_line : Tree → Option (List ℕ) → List ℕ
frame_line s None = []
frame_line s (Some colours) = line (frame_object s.width s.height colours)

-- how the run ended
abbrev pub end_object : End → Data
end_object end = one_member (codes "end") (string (end_word end))

-- a thread that waits, and its last call
abbrev pub waits_text : Tree → ℕ → Call → List ℕ
waits_text s t call = decimal t ++ (codes " " ++ call_text s call)

abbrev pub waits_object : Tree → ℕ → Call → Data
waits_object s t call = one_member (codes "waits") (string (waits_text s t call))

-- a thread that has used up its budget
abbrev pub spent_object : ℕ → Data
spent_object t = one_member (codes "spent") (number (unsigned t))

-- one more number in a list
abbrev pub count : ℕ → Items → Items
count n more = item (number (unsigned n)) more

-- the counts of sends: all, those entered, those answered by a procedure, by a reply, by loss and by time, and those unfinished
abbrev pub counts_object : SendCount → Data
counts_object c = one_member (codes "sends") (array (count c.begun (count c.entered (count c.by_proc (count c.by_reply (count c.by_loss (count c.by_timeout (count c.unfinished no_items))))))))

-- the line of a thread that waits, where it has made a call
abbrev pub waits_line : Tree → ℕ → Option Call → List ℕ
waits_line s t None = []
waits_line s t (Some call) = line (waits_object s t call)

-- the extra line of a thread: where all is stuck and it hasn't ended, its call; where budgets are spent and it isn't idle, its number
abbrev pub extra : Tree → Past → End → ℕ → List ℕ
extra s past Done t = []
extra s past Stuck t = if has_ended past t then [] else waits_line s t (last_call past t)
extra s past Spent t = if is_barred (setup_of s) past t then [] else line (spent_object t)
extra s past Cut t = []

-- those of all threads, in order
abbrev pub extras : Tree → Past → End → List ℕ
extras s past end = from_each (extra s past end) (length s.threads)

-- the line of the end, the extra lines and the line of the sends
abbrev pub ending : Tree → Past → End → List ℕ
ending s past end = line (end_object end) ++ (extras s past end ++ line (counts_object (send_count past)))
