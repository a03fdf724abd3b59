-- Why a text is refused.
use Rattle.std.specs.Prelude.{◌≡◌, ◌≢◌, ℕ, ◌+◌, ◌<◌, List, [], length, take, slice_index_or, ⊤}
use Rattle.std.specs.Prelude.{◌⊎◌}
use Rattle.script_tree.specs.Tree.{Tree}
use Rattle.script_lines.specs.Known.{Known}
use Rattle.script_lines.specs.LineReading.{texts_of}
use Rattle.script_text.specs.declared.fault.Reason.{Reason}
use Rattle.script_text.specs.declared.fault.Reason.TheVariants as reasons
use Rattle.script_text.specs.declared.fault.Refusal.{Refusal}
use Rattle.script_text.specs.declared.fault.ReadFault.{ReadFault}
use Rattle.script_text.specs.declared.fault.ReadFault.TheVariants as faults
use Rattle.script_text.specs.Grammar.{IsText, Begins, Front, rest_of}
use Rattle.script_text.specs.Limits.{IsScript}
use Rattle.script_text.specs.Lines.{names_of, script_lines}
use Rattle.script_text.specs.Nesting.{Nest}
use Rattle.script_text.specs.Reasons.{line_reason}
use Rattle.script_text.specs.Spelling.{spelling}

-- no script has this text
abbrev pub IsNoScript : List ℕ → Type 0
IsNoScript bytes = (s : Tree) → IsScript s → bytes ≢ spelling s

-- ---- the first bad line

-- with the line behind so many others no script begins; its reason is the first that applies
pub record IsBadText (texts : List (List ℕ)) (before : ℕ) (known : Known) (nest : Nest) (reason : Reason) : Type 0 where
  pub there : before < length texts
  pub bad : Begins (take (before + 1) texts) → ⊥
  pub why : reason ≡ line_reason before known nest (slice_index_or texts before [])

-- all whole lines begin a script, and the last line has no line feed
pub record IsCutOff (bytes : List ℕ) (before : ℕ) (reason : Reason) : Type 0 where
  pub all : before ≡ length (texts_of bytes)
  pub cut : rest_of bytes ≢ []
  pub why : reason ≡ reasons.Bytes

-- all lines begin a script, and the text ends too early
pub record IsTooShort (bytes : List ℕ) (before : ℕ) (reason : Reason) : Type 0 where
  pub all : before ≡ length (texts_of bytes)
  pub ended : rest_of bytes ≡ []
  pub more : IsText (texts_of bytes) → ⊥
  pub why : reason ≡ reasons.End

-- the refusal tells the first bad line of a text: the lines before it begin a script, and with it none does
pub record IsFirstBad (bytes : List ℕ) (refusal : Refusal) : Type 0 where
  pub before : ℕ
  pub known : Known
  pub nest : Nest
  pub threads : ℕ
  pub number : refusal.line ≡ before + 1
  pub good : Begins (take before (texts_of bytes))
  pub front : Front (take before (texts_of bytes)) known nest threads
  pub bad : IsBadText (texts_of bytes) before known nest refusal.reason ⊎ (IsCutOff bytes before refusal.reason ⊎ IsTooShort bytes before refusal.reason)

-- line 0, and the text is too long
pub record IsTooLong (bytes : List ℕ) (refusal : Refusal) : Type 0 where
  pub many : 1048576 < length bytes
  pub told : refusal ≡ record { line = 0; reason = reasons.Long }

-- a fault has its cause: a refusal says that no script has the text, and tells its first bad line or that it is too long; want of memory says nothing
abbrev pub HasCause : List ℕ → ReadFault → Type 0
HasCause bytes (faults.Refused refusal) = IsNoScript bytes × (IsTooLong bytes refusal ⊎ IsFirstBad bytes refusal)
HasCause bytes faults.Memory = ⊤

-- ---- two trees

-- two trees say the same, wherever in memory their statements lie
pub record IsSame (s t : Tree) : Type 0 where
  pub width : s.width ≡ t.width
  pub height : s.height ≡ t.height
  pub budget : s.budget ≡ t.budget
  pub order : s.order ≡ t.order
  pub names : s.names ≡ t.names
  pub procedures : names_of s.procedures ≡ names_of t.procedures
  pub lines : script_lines s ≡ script_lines t
