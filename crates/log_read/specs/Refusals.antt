-- Why a text is refused.
use Rattle.std.specs.Prelude.{◌≡◌, ◌≢◌, ◌⊎◌, ℕ, ◌+◌, ◌-◌, ◌^◌, ◌<◌, ◌≤◌, min, List, [], length, take, slice_index_or, ⊤}
use Rattle.script_tree.specs.Tree.{Tree}
use Rattle.script_lines.specs.LineReading.{texts_of}
use Rattle.script_text.specs.declared.fault.Reason.{Reason}
use Rattle.script_text.specs.declared.fault.Reason.TheVariants as reasons
use Rattle.script_text.specs.declared.fault.Refusal.{Refusal}
use Rattle.script_text.specs.declared.fault.ReadFault.{ReadFault}
use Rattle.script_text.specs.declared.fault.ReadFault.TheVariants as faults
use Rattle.script_text.specs.Grammar.{rest_of}
use Rattle.log_read.specs.declared.phase.Phase.{Phase}
use Rattle.log_read.specs.declared.phase.Phase.TheVariants as phases
use Rattle.log_read.specs.Grammar.{Begins, Leads}
use Rattle.log_read.specs.Limits.{IsLog}
use Rattle.log_read.specs.Logs.{LogTree, spelling}
use Rattle.log_read.specs.Reasons.{line_reason}

-- no log of the script has this text
abbrev pub IsNoLog : Tree → List ℕ → Type 0
IsNoLog s bytes = (l : LogTree) → IsLog s l → bytes ≢ spelling s l

-- ---- the first bad line

-- with the line behind so many others no log begins; its reason is the first that applies where this may stand
pub record IsBadText (s : Tree) (texts : List (List ℕ)) (before : ℕ) (phase : Phase) (reason : Reason) : Type 0 where
  pub there : before < length texts
  pub bad : Begins s (take (before + 1) texts) → ⊥
  pub why : reason ≡ line_reason s phase (slice_index_or texts before [])

-- all whole lines begin a log, and the last line has no line feed
pub record IsCutOff (bytes : List ℕ) (before : ℕ) (reason : Reason) : Type 0 where
  pub all : before ≡ length (texts_of bytes)
  pub cut : rest_of bytes ≢ []
  pub why : reason ≡ reasons.Bytes

-- all lines begin a log, and the text ends too early
pub record IsTooShort (bytes : List ℕ) (before : ℕ) (reason : Reason) : Type 0 where
  pub all : before ≡ length (texts_of bytes)
  pub ended : rest_of bytes ≡ []
  pub why : reason ≡ reasons.End

-- the refusal tells the first bad line of a text that is no log's: the lines before it begin a log of the script, and with it none does; its number is told as far as 32 bits go
pub record IsFirstBad (s : Tree) (bytes : List ℕ) (refusal : Refusal) : Type 0 where
  pub before : ℕ
  pub phase : Phase
  pub number : refusal.line ≡ min (before + 1) (2 ^ 32 - 1)
  pub good : Begins s (take before (texts_of bytes))
  pub front : Leads s phases.First (take before (texts_of bytes)) phase
  pub bad : IsBadText s (texts_of bytes) before phase refusal.reason ⊎ (IsCutOff bytes before refusal.reason ⊎ IsTooShort bytes before refusal.reason)

-- a line of the text, from 1 on, or the one behind the last
abbrev pub IsLineOf : List ℕ → ℕ → Type 0
IsLineOf bytes line = (0 < line) × (line ≤ length (texts_of bytes) + 1)

-- a fault has its cause: a refusal says that no log has the text, and tells its first bad line; want of memory says nothing
abbrev pub HasCause : Tree → List ℕ → ReadFault → Type 0
HasCause s bytes (faults.Refused refusal) = IsNoLog s bytes × IsFirstBad s bytes refusal
HasCause s bytes faults.Memory = ⊤
