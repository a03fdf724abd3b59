-- What each status says, over what was left and is left to read, what was and is held, and the counts of faults.
use Rattle.std.specs.Prelude.{◌≡◌, ◌≤◌, ℕ, ◌⊎◌, List, length, Option}
use Rattle.std.specs.Io.KnownBytes.{Appends, Consumes, Keeps, IsAtEnd}
use Rattle.user_model.specs.Past.{Past}
use Rattle.user_model.specs.Counts.{send_count}
use Rattle.user_model.specs.SendStories.{IsSendStory, IsSettled}
use Rattle.user_io.specs.Outside.{Rose, AppendsPart}
use Rattle.script_tree.specs.Tree.{Tree}
use Rattle.script_text.specs.Limits.{IsScript}
use Rattle.script_text.specs.declared.fault.ReadFault.TheVariants as reads
use Rattle.script_text.specs.declared.fault.Refusal.{Refusal}
use Rattle.script_text.specs.Refusals.{HasCause}
use Rattle.script_text.specs.Spelling.{spelling}
use Rattle.log_text.specs.declared.end.End.{End}
use Rattle.log_text.specs.declared.end.End.TheVariants as ends
use Rattle.log_text.specs.Ends.{end_of}
use Rattle.log_text.specs.Summaries.{summary}
use Rattle.user_pool.specs.Runs.{IsListed}
use Rattle.user_app.specs.Histories.{history_text}
use Rattle.user_app.specs.Made.{IsMade}
use Rattle.user_app.specs.Refusals.{Refused, RefusedPart, too_long}
use Rattle.user_app.specs.declared.request.LogForm.{LogForm}
use Rattle.user_app.specs.declared.status.Status.{Status}
use Rattle.user_app.specs.declared.status.Status.TheVariants as statuses

-- the log of a run of the script was written in this form, and this is its end; each send was entered at most once and before its one answer, and where all threads have ended each has its answer
pub record Logged (Runs : Tree → Past → Type 0) (form : LogForm) (s : Tree) (holds holds' : Option (List ℕ)) (end : End) : Type 0 where
  pub history : Past
  pub run : Runs s history
  pub ended : end_of s history ≡ end
  pub written : Appends holds holds' (history_text form s history)
  pub stories : (send : ℕ) → IsSendStory history send
  pub settled : end ≡ ends.Done → IsSettled history (send_count history)

-- a front of that log was written
pub record LoggedPart (Runs : Tree → Past → Type 0) (form : LogForm) (s : Tree) (holds holds' : Option (List ℕ)) : Type 0 where
  pub history : Past
  pub run : Runs s history
  pub written : AppendsPart holds holds' (history_text form s history)

-- how a run of a script may end, whose log is to be written in this form; Runs says which pasts may be that of the run
abbrev pub RunEnds : (Tree → Past → Type 0) → LogForm → Tree → Option (List ℕ) → Option (List ℕ) → ℕ → ℕ → Status → Type 0
RunEnds Runs form s holds holds' faults faults' statuses.Done = Logged Runs form s holds holds' ends.Done
RunEnds Runs form s holds holds' faults faults' statuses.Stuck = Logged Runs form s holds holds' ends.Stuck
RunEnds Runs form s holds holds' faults faults' statuses.Spent = Logged Runs form s holds holds' ends.Spent
RunEnds Runs form s holds holds' faults faults' statuses.WriteFault = LoggedPart Runs form s holds holds' × Rose faults faults'
RunEnds Runs form s holds holds' faults faults' statuses.Memory = Keeps holds holds' ⊎ LoggedPart Runs form s holds holds'
RunEnds Runs form s holds holds' faults faults' _ = ⊥

-- the input was read to its end and is a script, and its run ended so
pub record Ran (Runs : Tree → Past → Type 0) (form : LogForm) (left left' holds holds' : Option (List ℕ)) (faults faults' : ℕ) (status : Status) : Type 0 where
  pub script : Tree
  pub is_script : IsScript script
  pub input : Consumes left left' (spelling script)
  pub read_out : IsAtEnd left'
  pub ends : RunEnds Runs form script holds holds' faults faults' status

-- the summary of the one run of a script that is made from the number was written, and this is its end
pub record Summed (n : ℕ) (holds holds' : Option (List ℕ)) (end : End) : Type 0 where
  pub script : Tree
  pub is_made : IsMade n script
  pub history : Past
  pub listed : IsListed script history
  pub ended : end_of script history ≡ end
  pub written : Appends holds holds' (summary n history end)

-- a front of that summary was written
pub record SummedPart (n : ℕ) (holds holds' : Option (List ℕ)) : Type 0 where
  pub script : Tree
  pub is_made : IsMade n script
  pub history : Past
  pub listed : IsListed script history
  pub written : AppendsPart holds holds' (summary n history (end_of script history))

-- how the run of the script that is made from a number may end
abbrev pub MakeEnds : ℕ → Option (List ℕ) → Option (List ℕ) → ℕ → ℕ → Status → Type 0
MakeEnds n holds holds' faults faults' statuses.Done = Summed n holds holds' ends.Done
MakeEnds n holds holds' faults faults' statuses.Stuck = Summed n holds holds' ends.Stuck
MakeEnds n holds holds' faults faults' statuses.Spent = Summed n holds holds' ends.Spent
MakeEnds n holds holds' faults faults' statuses.WriteFault = SummedPart n holds holds' × Rose faults faults'
MakeEnds n holds holds' faults faults' statuses.Memory = Keeps holds holds' ⊎ SummedPart n holds holds'
MakeEnds n holds holds' faults faults' _ = ⊥

-- the input was read to its end and is no script, which the refusal tells with its cause, or one byte more than a script may have was read, and it is told that it is too long
pub record ReadNoScript (left left' : Option (List ℕ)) (refusal : Refusal) : Type 0 where
  pub text : List ℕ
  pub input : Consumes left left' text
  pub refused : (IsAtEnd left' × ((length text ≤ 1048576) × HasCause text (reads.Refused refusal))) ⊎ ((length text ≡ 1048577) × (refusal ≡ too_long))

-- all that was to be written was written
abbrev pub IsWhole : Status → Type 0
IsWhole statuses.Done = Unit {0}
IsWhole statuses.Stuck = Unit {0}
IsWhole statuses.Spent = Unit {0}
IsWhole statuses.Script = Unit {0}
IsWhole statuses.Illegal = Unit {0}
IsWhole _ = ⊥

-- how a run of the script in the input may end, whose log is to be written in this form; Runs says which pasts may be that of the run
abbrev pub InputEnds : (Tree → Past → Type 0) → LogForm → Option (List ℕ) → Option (List ℕ) → Option (List ℕ) → Option (List ℕ) → ℕ → ℕ → ℕ → ℕ → Status → Type 0
InputEnds Runs form left left' holds holds' missed missed' faults faults' statuses.Done = Ran Runs form left left' holds holds' faults faults' statuses.Done
InputEnds Runs form left left' holds holds' missed missed' faults faults' statuses.Stuck = Ran Runs form left left' holds holds' faults faults' statuses.Stuck
InputEnds Runs form left left' holds holds' missed missed' faults faults' statuses.Spent = Ran Runs form left left' holds holds' faults faults' statuses.Spent
InputEnds Runs form left left' holds holds' missed missed' faults faults' statuses.Script = Refused (ReadNoScript left left') holds holds'
InputEnds Runs form left left' holds holds' missed missed' faults faults' statuses.ReadFault = Rose missed missed' × Keeps holds holds'
InputEnds Runs form left left' holds holds' missed missed' faults faults' statuses.WriteFault =
    Rose faults faults' × (Ran Runs form left left' holds holds' faults faults' statuses.WriteFault ⊎ RefusedPart (ReadNoScript left left') holds holds')
InputEnds Runs form left left' holds holds' missed missed' faults faults' statuses.Memory = Keeps holds holds' ⊎ Ran Runs form left left' holds holds' faults faults' statuses.Memory
InputEnds Runs form left left' holds holds' missed missed' faults faults' _ = ⊥
