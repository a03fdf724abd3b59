-- What a check says, over what was left and is left to read, what was and is held, and the counts of faults.
use Rattle.std.specs.Prelude.{◌≡◌, ℕ, ◌⊎◌, List, ◌++◌, length, Option, codes}
use Rattle.std.specs.Io.KnownBytes.{Appends, Consumes, IsAtEnd}
use Rattle.user_model.specs.Past.{Past}
use Rattle.user_io.specs.Outside.{Rose, AppendsPart}
use Rattle.user_io.specs.Text.{operand}
use Rattle.script_tree.specs.Tree.{Tree}
use Rattle.script_text.specs.Limits.{IsScript}
use Rattle.script_text.specs.Spelling.{spelling}
use Rattle.log_text.specs.Logs.{log}
use Rattle.log_read.specs.Logs.{LogTree}
use Rattle.illegal_text.specs.declared.illegal.Illegal.{Illegal}
use Rattle.illegal_text.specs.Texts.{illegal_text}
use Rattle.user_pool.specs.Runs.{IsRun}
use Rattle.log_replay.specs.Replays.{IsNoRunLog, IsRunLog, IsFirstBad}
use Rattle.user_app.specs.Inputs.{IsInput, ReadNoPair}
use Rattle.user_app.specs.Refusals.{Refused, RefusedPart}
use Rattle.user_app.specs.declared.status.Status.{Status}
use Rattle.user_app.specs.declared.status.Status.TheVariants as statuses

-- the line of a log of a run with so many entries
abbrev pub legal_text : ℕ → List ℕ
legal_text entries = codes "legal" ++ (operand entries ++ codes "\n")

-- how the line may be written
abbrev pub LegalEnds : ℕ → Option (List ℕ) → Option (List ℕ) → ℕ → ℕ → Status → Type 0
LegalEnds entries holds holds' faults faults' statuses.Done = Appends holds holds' (legal_text entries)
LegalEnds entries holds holds' faults faults' statuses.WriteFault = AppendsPart holds holds' (legal_text entries) × Rose faults faults'
LegalEnds entries holds holds' faults faults' statuses.Memory = holds ≡ holds'
LegalEnds entries holds holds' faults faults' status = ⊥

-- how the three lines may be written
abbrev pub IllegalEnds : Tree → Past → LogTree → Illegal → Option (List ℕ) → Option (List ℕ) → ℕ → ℕ → Status → Type 0
IllegalEnds s past l found holds holds' faults faults' statuses.Illegal = Appends holds holds' (illegal_text s past l found)
IllegalEnds s past l found holds holds' faults faults' statuses.WriteFault = AppendsPart holds holds' (illegal_text s past l found) × Rose faults faults'
IllegalEnds s past l found holds holds' faults faults' statuses.Memory = AppendsPart holds holds' (illegal_text s past l found)
IllegalEnds s past l found holds holds' faults faults' status = ⊥

-- the log is that of a run, and its line was written so
pub record WasLegal (s : Tree) (l : LogTree) (holds holds' : Option (List ℕ)) (faults faults' : ℕ) (status : Status) : Type 0 where
  pub history : Past
  pub log : IsRunLog s l history
  pub ends : LegalEnds (length history) holds holds' faults faults' status

-- the log is no run's, and the three lines of its first bad place were written so
pub record WasIllegal (s : Tree) (l : LogTree) (holds holds' : Option (List ℕ)) (faults faults' : ℕ) (status : Status) : Type 0 where
  pub no_run : IsNoRunLog s l
  pub found : Illegal
  pub past : Past
  pub first : IsFirstBad s l past found
  pub ends : IllegalEnds s past l found holds holds' faults faults' status

-- how a check of a log may end
abbrev pub LogChecks : Tree → LogTree → Option (List ℕ) → Option (List ℕ) → ℕ → ℕ → Status → Type 0
LogChecks s l holds holds' faults faults' statuses.Done = WasLegal s l holds holds' faults faults' statuses.Done
LogChecks s l holds holds' faults faults' statuses.Illegal = WasIllegal s l holds holds' faults faults' statuses.Illegal
LogChecks s l holds holds' faults faults' statuses.WriteFault = WasLegal s l holds holds' faults faults' statuses.WriteFault ⊎ WasIllegal s l holds holds' faults faults' statuses.WriteFault
LogChecks s l holds holds' faults faults' statuses.Memory = (holds ≡ holds') ⊎ WasIllegal s l holds holds' faults faults' statuses.Memory
LogChecks s l holds holds' faults faults' status = ⊥

-- the input was read to its end and is a script with a log, whose check ended so
pub record ReadPair (left left' holds holds' : Option (List ℕ)) (faults faults' : ℕ) (status : Status) : Type 0 where
  pub script : Tree
  pub log : LogTree
  pub input : IsInput left left' script log
  pub ends : LogChecks script log holds holds' faults faults' status

-- the input was read to its end and is a script with the log of a run, and its length was written
pub record ReadLegal (left left' holds holds' : Option (List ℕ)) : Type 0 where
  pub script : Tree
  pub is_script : IsScript script
  pub history : Past
  pub run : IsRun script history
  pub input : Consumes left left' (spelling script ++ log script history)
  pub read_out : IsAtEnd left'
  pub written : Appends holds holds' (legal_text (length history))

-- how a check may end
abbrev pub CheckEnds : Option (List ℕ) → Option (List ℕ) → ℕ → ℕ → Option (List ℕ) → Option (List ℕ) → ℕ → ℕ → Status → Type 0
CheckEnds left left' missed missed' holds holds' faults faults' statuses.Done = ReadLegal left left' holds holds'
CheckEnds left left' missed missed' holds holds' faults faults' statuses.Illegal = ReadPair left left' holds holds' faults faults' statuses.Illegal
CheckEnds left left' missed missed' holds holds' faults faults' statuses.Script = Refused (ReadNoPair left left') holds holds'
CheckEnds left left' missed missed' holds holds' faults faults' statuses.ReadFault = Rose missed missed' × (holds ≡ holds')
CheckEnds left left' missed missed' holds holds' faults faults' statuses.WriteFault = ReadPair left left' holds holds' faults faults' statuses.WriteFault ⊎ (RefusedPart (ReadNoPair left left') holds holds' × Rose faults faults')
CheckEnds left left' missed missed' holds holds' faults faults' statuses.Memory = (holds ≡ holds') ⊎ ReadPair left left' holds holds' faults faults' statuses.Memory
CheckEnds left left' missed missed' holds holds' faults faults' status = ⊥
