-- Logs of runs, and the first bad place of a log that is no run's.
use Rattle.std.specs.Prelude.{◌≡◌, ◌≢◌, ℕ, zero, suc, ◌<◌, ◌≤◌, true, false, List, ◌∷◌, ◌++◌, length, take, slice_get, Option, Some, None}
use Rattle.user_model.specs.declared.call.Call.{Call}
use Rattle.user_model.specs.declared.call.Call.TheVariants.{Advance}
use Rattle.user_model.specs.declared.entry.Answer.{Answer}
use Rattle.user_model.specs.declared.entry.Entry.{Entry}
use Rattle.user_model.specs.Past.{Past}
use Rattle.user_model.specs.Idle.{reply, first_busy, is_idle, is_barred}
use Rattle.user_model.specs.Legal.{IsLawful}
use Rattle.script_tree.specs.Tree.{Tree}
use Rattle.script_tree.specs.Pieces.{Whole, Cut}
use Rattle.script_tree.specs.Traces.{IsTrace, trace_of}
use Rattle.log_text.specs.Ends.{setup_of, used}
use Rattle.log_text.specs.Frames.{rows, shown}
use Rattle.log_read.specs.Logs.{LogEntryTree, LogTree, log_entries_of, log_of}
use Rattle.illegal_text.specs.declared.illegal.Illegal.{Illegal}
use Rattle.illegal_text.specs.declared.illegal.Over.{Over}
use Rattle.illegal_text.specs.declared.illegal.Over.TheVariants as overs
use Rattle.illegal_text.specs.declared.illegal.Why.{Why}
use Rattle.illegal_text.specs.declared.illegal.Why.TheVariants as reasons
use Rattle.illegal_text.specs.EndingLines.{ending_lines}
use Rattle.user_pool.specs.Runs.{ComesNext, HasEntriesLeft, IsMove, IsRun}

-- ---- logs of runs

-- the log is that of this run: its entries with their frames, its end, what is told of its threads, and its counts of sends
pub record IsRunLog (s : Tree) (l : LogTree) (past : Past) : Type 0 where
  pub run : IsRun s past
  pub log : l ≡ log_of s past

-- no run of the script has this log
abbrev pub IsNoRunLog : Tree → LogTree → Type 0
IsNoRunLog s l = (past : Past) → IsRunLog s l past → ⊥

-- ---- what is wrong with an entry behind a run

-- a thread of the script
abbrev pub IsThread : Tree → ℕ → Type 0
IsThread s t = (0 < t) × (t ≤ length s.threads)

-- the program of a thread goes on with some call, and some of its budget is left
pub record GoesOn (s : Tree) (past : Past) (t : ℕ) : Type 0 where
  pub call : Call
  pub next : IsTrace s t (trace_of past t) (Cut call)
  pub left : used past t < s.budget

-- the program of a thread goes on with some call, and none of its budget is left
pub record HasSpent (s : Tree) (past : Past) (t : ℕ) : Type 0 where
  pub call : Call
  pub next : IsTrace s t (trace_of past t) (Cut call)
  pub spent : s.budget ≤ used past t

-- no thread is busy, and the clock may not go on: all threads have ended, or it said that nothing can
pub record HasStopped (s : Tree) (past : Past) : Type 0 where
  pub quiet : first_busy (setup_of s) past ≡ None
  pub barred : is_barred (setup_of s) past 0 ≡ true

-- why an actor has no entry left to make: there is no such actor, the clock has stopped, the thread's entries are all of its program, or its budget is used up
abbrev pub IsOver : Tree → Past → ℕ → Over → Type 0
IsOver s past who overs.Absent = length s.threads < who
IsOver s past who overs.Stop = (who ≡ 0) × HasStopped s past
IsOver s past who overs.Ended = IsThread s who × IsTrace s who (trace_of past who) Whole
IsOver s past who overs.Spent = IsThread s who × HasSpent s past who

-- who keeps an actor with entries left from moving: the clock the lowest thread that isn't idle, and a thread that it is idle itself
abbrev pub IsHeldBy : Tree → Past → ℕ → ℕ → Type 0
IsHeldBy s past zero t = first_busy (setup_of s) past ≡ Some t
IsHeldBy s past (suc n) t = (t ≡ suc n) × (IsThread s (suc n) × (GoesOn s past (suc n) × (is_idle (setup_of s) past (suc n) ≡ true)))

-- the actor may move, and this call comes next
pub record MayMake (s : Tree) (past : Past) (who : ℕ) (call : Call) : Type 0 where
  pub free : is_barred (setup_of s) past who ≡ false
  pub remains : HasEntriesLeft s past who
  pub next : ComesNext s past who call

-- what is wrong with an entry: its actor has none left to make, or may not move now, or makes another call, or is answered otherwise
abbrev pub IsWrongMove : Tree → Past → Entry → Why → Type 0
IsWrongMove s past e (reasons.Over over) = IsOver s past e.who.0 over
IsWrongMove s past e (reasons.Barred t) = IsHeldBy s past e.who.0 t.0
IsWrongMove s past e (reasons.Call call) = MayMake s past e.who.0 call × (e.call ≢ call)
IsWrongMove s past e (reasons.Answer a) = MayMake s past e.who.0 e.call × ((a ≡ reply (setup_of s) past e.who.0 e.call) × (e.answer ≢ a))
IsWrongMove s past e (reasons.Frame row) = ⊥
IsWrongMove s past e (reasons.EndLine k) = ⊥

-- the lists are alike before the place, and there they aren't
pub record DifferAt {A : Type 0} (xs ys : List A) (k : ℕ) : Type 0 where
  pub before : take k xs ≡ take k ys
  pub there : slice_get xs k ≢ slice_get ys k

-- two frames first differ in this row
abbrev pub DifferInRow : Tree → Option (List ℕ) → Option (List ℕ) → ℕ → Type 0
DifferInRow s (Some found) (Some right) row = DifferAt (rows s.width s.height found) (rows s.width s.height right) row
DifferInRow s found right row = ⊥

-- what is wrong with an entry and its frame: the frame is looked at where the entry is right
abbrev pub IsWrong : Tree → Past → LogEntryTree → Why → Type 0
IsWrong s past e (reasons.Frame row) = IsMove s past e.entry × DifferInRow s e.frame (shown (setup_of s) past e.entry.answer) row
IsWrong s past e why = IsWrongMove s past e.entry why

-- ---- the first bad place

-- what a machine has made that had the past before the entry: for a frame the entry, else nothing but that past or more
abbrev pub HasMade : Past → Past → Entry → Why → Type 0
HasMade before now e (reasons.Frame row) = now ≡ e ∷ before
HasMade before now e why = (newer : List Entry) × (now ≡ newer ++ before)

-- the entries before the place are a run's with its frames, and the next one is wrong
pub record IsWrongEntry (s : Tree) (entries : List LogEntryTree) (before now : Past) (why : Why) : Type 0 where
  pub entry : LogEntryTree
  pub rest : List LogEntryTree
  pub behind : entries ≡ log_entries_of s before ++ entry ∷ rest
  pub wrong : IsWrong s before entry why
  pub made : HasMade before now entry.entry why
  pub lawful : IsLawful (setup_of s) now

-- all entries are a run's with its frames, and this line after them is the first that isn't its
pub record IsWrongEnding (s : Tree) (l : LogTree) (before now : Past) (k : ℕ) : Type 0 where
  pub entries : l.entries ≡ log_entries_of s before
  pub line : DifferAt (ending_lines l) (ending_lines (log_of s before)) k
  pub made : now ≡ before

-- what is wrong at the place behind a past
abbrev pub IsBad : Tree → LogTree → Past → Past → Why → Type 0
IsBad s l before now (reasons.EndLine k) = IsWrongEnding s l before now k
IsBad s l before now why = IsWrongEntry s l.entries before now why

-- the first bad place of a log and its reason, where a machine that makes the entries again stops with this past
pub record IsFirstBad (s : Tree) (l : LogTree) (now : Past) (found : Illegal) : Type 0 where
  pub before : Past
  pub run : IsRun s before
  pub place : found.place ≡ length before
  pub bad : IsBad s l before now found.why

-- the same of the entries alone
pub record IsStoppedAt (s : Tree) (entries : List LogEntryTree) (now : Past) (found : Illegal) : Type 0 where
  pub before : Past
  pub run : IsRun s before
  pub place : found.place ≡ length before
  pub wrong : IsWrongEntry s entries before now found.why

-- ---- what is told of an entry that is made again

-- what is wrong with an answer, if anything is
abbrev pub AnswerTold : Answer → Answer → Option Why → Type 0
AnswerTold found right None = found ≡ right
AnswerTold found right (Some (reasons.Answer a)) = (a ≡ right) × (found ≢ a)
AnswerTold found right (Some why) = ⊥

-- what keeps the clock from going on, if anything does
abbrev pub ClockHeld : Tree → Past → Option Why → Type 0
ClockHeld s past None = is_barred (setup_of s) past 0 ≡ false
ClockHeld s past (Some (reasons.Barred t)) = first_busy (setup_of s) past ≡ Some t.0
ClockHeld s past (Some (reasons.Over overs.Stop)) = HasStopped s past
ClockHeld s past (Some why) = ⊥

-- an entry is wrong, and a machine has made this past or more
pub record WasWrong (s : Tree) (before now : Past) (e : Entry) (why : Why) : Type 0 where
  pub wrong : IsWrongMove s before e why
  pub newer : List Entry
  pub made : now ≡ newer ++ before
  pub lawful : IsLawful (setup_of s) before → IsLawful (setup_of s) now

-- an entry is right, and was made
pub record WasRight (s : Tree) (before now : Past) (e : Entry) : Type 0 where
  pub move : IsMove s before e
  pub made : now ≡ e ∷ before

-- what is told of an entry without its frame
abbrev pub MoveTold : Tree → Past → Past → Entry → Option Why → Type 0
MoveTold s before now e None = WasRight s before now e
MoveTold s before now e (Some why) = WasWrong s before now e why

-- what is told of its frame, where this is the right one
abbrev pub FrameTold : Tree → LogEntryTree → Option (List ℕ) → Option Why → Type 0
FrameTold s e right None = e.frame ≡ right
FrameTold s e right (Some (reasons.Frame row)) = DifferInRow s e.frame right row
FrameTold s e right (Some why) = ⊥

-- an entry and its frame are right, and the entry was made
pub record WasWhole (s : Tree) (before now : Past) (e : LogEntryTree) : Type 0 where
  pub right : WasRight s before now e.entry
  pub frame : e.frame ≡ shown (setup_of s) before e.entry.answer

-- an entry or its frame is wrong
pub record WasBad (s : Tree) (before now : Past) (e : LogEntryTree) (why : Why) : Type 0 where
  pub wrong : IsWrong s before e why
  pub made : HasMade before now e.entry why
  pub lawful : IsLawful (setup_of s) now

-- what is told of an entry with its frame
abbrev pub EntryTold : Tree → Past → Past → LogEntryTree → Option Why → Type 0
EntryTold s before now e None = WasWhole s before now e
EntryTold s before now e (Some why) = WasBad s before now e why
