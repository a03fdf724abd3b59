-- Which trees are logs of a script.
use Rattle.std.specs.Prelude.{◌≡◌, ℕ, ◌*◌, ◌^◌, ◌≤◌, ◌<◌, List, length, FitsSigned, ⊤, Bool, true, false, is_some, IfSome}
use Rattle.std.specs.Int.{w32, w64}
use Rattle.std.specs.List.{AllByRecursion}
use Rattle.win_num.specs.declared.code.Code.{Code}
use Rattle.win_num.specs.declared.code.Code.TheVariants as codes_of
use Rattle.user_model.specs.declared.call.Call.{Call}
use Rattle.user_model.specs.declared.entry.Answer.{Answer}
use Rattle.user_model.specs.declared.entry.Answer.TheVariants.{Snap}
use Rattle.user_model.specs.declared.entry.Entry.{Entry}
use Rattle.user_model.specs.declared.entry.SendCount.{SendCount}
use Rattle.user_model.specs.Past.{Past}
use Rattle.call_fields.specs.declared.value.Value.{Value}
use Rattle.call_fields.specs.declared.value.Value.TheVariants as values
use Rattle.call_table.specs.Calls.{call_parts}
use Rattle.answer_table.specs.Answers.{answer_parts}
use Rattle.script_tree.specs.Tree.{Tree}
use Rattle.log_text.specs.declared.end.End.{End}
use Rattle.log_text.specs.declared.end.End.TheVariants.{Stuck, Spent}
use Rattle.log_read.specs.declared.log.Extra.{Extra}
use Rattle.log_read.specs.declared.log.Extra.TheVariants as extras
use Rattle.log_read.specs.Logs.{LogEntryTree, LogTree, log_entries_of}

-- the number of a code has 16 bits
abbrev pub IsCode : Code → Type 0
IsCode (codes_of.Win n) = n < 2 ^ 16
IsCode codes_of.Full = ⊤
IsCode codes_of.NotNow = ⊤
IsCode codes_of.NoTarget = ⊤

-- a value that its field can hold; names and procedures are those of the script
abbrev pub IsValue : Tree → Value → Type 0
IsValue s (values.Number n) = n < 2 ^ 64
IsValue s (values.Message m) = m < 2 ^ 64
IsValue s (values.Signed x) = FitsSigned w64 x
IsValue s (values.Name n) = n < length s.names
IsValue s (values.Procedure n) = n < length s.procedures
IsValue s (values.Window w) = w.0 < 2 ^ 32
IsValue s (values.Send n) = n.0 < 2 ^ 32
IsValue s (values.Thread t) = t.0 < 2 ^ 8
IsValue s (values.Count k) = k < 2 ^ 32
IsValue s (values.ShortMessage m) = m < 2 ^ 32
IsValue s (values.Pixel x) = FitsSigned w32 x
IsValue s (values.Byte n) = n < 2 ^ 8
IsValue s (values.Source o) = ⊤
IsValue s (values.Cause c) = ⊤
IsValue s (values.Code c) = IsCode c

-- all fields of a call
abbrev pub IsCall : Tree → Call → Type 0
IsCall s c = AllByRecursion (IsValue s) (call_parts c)

-- all fields of an answer
abbrev pub IsAnswer : Tree → Answer → Type 0
IsAnswer s a = AllByRecursion (IsValue s) (answer_parts a)

-- whether the entry of an answer kept a frame, whose lines stand behind its own
abbrev pub keeps_frame : Answer → Bool
keeps_frame (Snap k) = true
keeps_frame _ = false

-- an actor is the clock or one of 15 threads
pub record IsEntry (s : Tree) (e : Entry) : Type 0 where
  pub who : e.who.0 ≤ 15
  pub call : IsCall s e.call
  pub answer : IsAnswer s e.answer

-- a colour is a number from 0 to 15
abbrev pub IsColour : ℕ → Type 0
IsColour colour = colour < 16

-- colours, one for each pixel of the script's screen
pub record IsFrame (s : Tree) (colours : List ℕ) : Type 0 where
  pub size : length colours ≡ s.height * s.width
  pub below : AllByRecursion IsColour colours

-- an entry, with a frame exactly where its answer says that it kept one
pub record IsLogEntry (s : Tree) (e : LogEntryTree) : Type 0 where
  pub entry : IsEntry s e.entry
  pub kept : is_some e.frame ≡ keeps_frame e.entry.answer
  pub frame : IfSome e.frame (IsFrame s)

-- lines of waiting threads stand where a run is stuck, and lines of spent ones where it is spent
abbrev pub IsExtra : Tree → End → Extra → Type 0
IsExtra s end (extras.Waits t call) = (end ≡ Stuck) × ((t.0 ≤ 15) × IsCall s call)
IsExtra s end (extras.Spent t) = (end ≡ Spent) × (t.0 ≤ 15)

-- counts of 32 bits
pub record AreCounts (c : SendCount) : Type 0 where
  pub begun : c.begun < 2 ^ 32
  pub entered : c.entered < 2 ^ 32
  pub by_proc : c.by_proc < 2 ^ 32
  pub by_reply : c.by_reply < 2 ^ 32
  pub by_loss : c.by_loss < 2 ^ 32
  pub by_timeout : c.by_timeout < 2 ^ 32
  pub unfinished : c.unfinished < 2 ^ 32

-- the tree is a log of the script
pub record IsLog (s : Tree) (l : LogTree) : Type 0 where
  pub entries : AllByRecursion (IsLogEntry s) l.entries
  pub extras : AllByRecursion (IsExtra s l.end) l.extras
  pub sends : AreCounts l.sends

-- the frames that a past kept have such colours
abbrev pub HasColours : Tree → Past → Type 0
HasColours s past = AllByRecursion (λ (e : LogEntryTree). IfSome e.frame (AllByRecursion IsColour)) (log_entries_of s past)
