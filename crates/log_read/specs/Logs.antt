-- What a log says, and its text.
use Rattle.std.specs.Prelude.{ℕ, if◌then◌else◌, List, [], ◌∷◌, ◌++◌, length, Option, Some, None, codes}
use Rattle.std.specs.List.{flat_map}
use Rattle.user_model.specs.declared.call.Call.{Call}
use Rattle.user_model.specs.declared.entry.Entry.{Entry}
use Rattle.user_model.specs.declared.entry.SendCount.{SendCount}
use Rattle.user_model.specs.Past.{Past}
use Rattle.user_model.specs.Counts.{send_count}
use Rattle.user_model.specs.Places.{has_ended}
use Rattle.user_model.specs.Threads.{from_each}
use Rattle.user_model.specs.Idle.{is_barred}
use Rattle.script_tree.specs.Tree.{Tree}
use Rattle.log_text.specs.declared.end.End.{End}
use Rattle.log_text.specs.declared.end.End.TheVariants.{Done, Stuck, Spent, Cut}
use Rattle.log_text.specs.Ends.{setup_of, end_of}
use Rattle.log_text.specs.Entries.{entry_line}
use Rattle.log_text.specs.Frames.{shown, frame_lines}
use Rattle.log_text.specs.Endings.{end_line, last_call, waits_line, spent_line, counts_line}
use Rattle.log_read.specs.declared.log.Extra.{Extra}
use Rattle.log_read.specs.declared.log.Extra.TheVariants as extras

-- an entry, and the colours of the frame that it kept, if it kept one: row after row, the top one first, each from left to right
pub record LogEntryTree : Type 0 where
  pub entry : Entry
  pub frame : Option (List ℕ)

-- the entries, the oldest first, how the run ended, the extra lines, and the counts of sends
pub record LogTree : Type 0 where
  pub entries : List LogEntryTree
  pub end : End
  pub extras : List Extra
  pub sends : SendCount

-- ---- its text

-- an entry: its line, and a line for each row of its frame
abbrev pub log_entry_text : Tree → LogEntryTree → List ℕ
log_entry_text s e = entry_line s e.entry ++ frame_lines s e.frame

-- an extra line
abbrev pub extra_line : Tree → Extra → List ℕ
extra_line s (extras.Waits t call) = waits_line s t.0 (Some call)
extra_line s (extras.Spent t) = spent_line t.0

-- the one text of a log: its first line, the entries with their frames from the oldest on, the end, the extra lines and the counts of sends
unfoldable pub spelling : Tree → LogTree → List ℕ
spelling s l = codes "log 1\n" ++ (flat_map (log_entry_text s) l.entries ++ (end_line l.end ++ (flat_map (extra_line s) l.extras ++ counts_line l.sends)))

-- ---- the log of a run

-- an entry after the past before it, with the frame of that past where it kept one
abbrev pub log_entry_of : Tree → Past → Entry → LogEntryTree
log_entry_of s past e = record { entry = e; frame = shown (setup_of s) past e.answer }

-- the entries of a past, from the oldest on, each after the past before it
abbrev pub log_entries_of : Tree → Past → List LogEntryTree
log_entries_of s [] = []
log_entries_of s (e ∷ past) = log_entries_of s past ++ log_entry_of s past e ∷ []

-- a thread that waits, where it has a last call
abbrev pub waits_of : ℕ → Option Call → List Extra
waits_of t None = []
waits_of t (Some call) = extras.Waits (record { 0 = t }) call ∷ []

-- what is told of a thread beside the entries
abbrev pub extra_of : Tree → Past → End → ℕ → List Extra
extra_of s past Done t = []
extra_of s past Stuck t = if has_ended past t then [] else waits_of t (last_call past t)
extra_of s past Spent t = if is_barred (setup_of s) past t then [] else extras.Spent (record { 0 = t }) ∷ []
extra_of s past Cut t = []

-- of all threads, in order
abbrev pub extras_of : Tree → Past → End → List Extra
extras_of s past end = from_each (extra_of s past end) (length s.threads)

-- the log of a script's run: its entries with their frames, how it ended, what is told of its threads, and the counts of its sends
abbrev pub log_of : Tree → Past → LogTree
log_of s past = record { entries = log_entries_of s past; end = end_of s past; extras = extras_of s past (end_of s past); sends = send_count past }
