-- The input of a check.
use Rattle.std.specs.Prelude.{◌≡◌, ℕ, ◌+◌, ◌<◌, ◌≤◌, ◌⊎◌, if◌then◌else◌, List, [], ◌∷◌, ◌++◌, length, Option, ⊤}
use Rattle.std.specs.Io.KnownBytes.{Consumes, IsAtEnd}
use Rattle.script_tree.specs.Tree.{Tree}
use Rattle.script_lines.specs.Forms.{is_printable}
use Rattle.script_lines.specs.LineReading.{texts_of}
use Rattle.script_text.specs.declared.fault.Reason.{Reason}
use Rattle.script_text.specs.declared.fault.Reason.TheVariants as reasons
use Rattle.script_text.specs.declared.fault.Refusal.{Refusal}
use Rattle.script_text.specs.declared.fault.ReadFault.{ReadFault}
use Rattle.script_text.specs.declared.fault.ReadFault.TheVariants as faults
use Rattle.script_text.specs.Limits.{IsScript}
use Rattle.script_text.specs.Refusals.{HasCause}
use Rattle.script_text.specs.Spelling.{spelling}
use Rattle.log_read.specs.Limits.{IsLog}
use Rattle.log_read.specs.Logs.{LogTree, spelling as log_spelling}
use Rattle.log_read.specs.Refusals.{HasCause as HasLogCause}
use Rattle.user_app.specs.Parts.{script_part, log_part}
use Rattle.user_app.specs.Refusals.{too_long}

-- the input was read to its end, and is a script with a log of it
pub record IsInput (left left' : Option (List ℕ)) (s : Tree) (l : LogTree) : Type 0 where
  pub is_script : IsScript s
  pub is_log : IsLog s l
  pub input : Consumes left left' (spelling s ++ log_spelling s l)
  pub read_out : IsAtEnd left'

-- ---- no script before the log

-- what is wrong with the first of a log's lines where the script should go on: the word `log` can't stand there
abbrev pub early_reason : List (List ℕ) → Reason
early_reason [] = reasons.Bytes
early_reason (line ∷ more) = if is_printable line then reasons.Words else reasons.Bytes

-- where the script ends too early and a log stands behind it, the log's first line is the bad one
abbrev pub cut_reason : Reason → List ℕ → Reason
cut_reason reasons.End [] = reasons.End
cut_reason reasons.End (b ∷ log) = early_reason (texts_of (b ∷ log))
cut_reason reason log = reason

abbrev pub cut_by : List ℕ → Refusal → Refusal
cut_by log refusal = record { line = refusal.line; reason = cut_reason refusal.reason log }

-- what stands before the first line that begins with the word `log` is longer than a script may be
pub record IsLongFront (text : List ℕ) (refusal : Refusal) : Type 0 where
  pub many : 1048576 < length (script_part text)
  pub told : refusal ≡ too_long

-- it isn't, and is no script, which `alone` tells with its cause
pub record IsNoFront (text : List ℕ) (refusal : Refusal) : Type 0 where
  pub short : length (script_part text) ≤ 1048576
  pub alone : Refusal
  pub cause : HasCause (script_part text) (faults.Refused alone)
  pub told : refusal ≡ cut_by (log_part text) alone

-- ---- no log behind the script

-- the lines of a log go on from those of its script
abbrev pub behind : List ℕ → Refusal → Refusal
behind script refusal = record { line = length (texts_of script) + refusal.line; reason = refusal.reason }

-- a script, but no log of it from the first line that begins with the word `log` on, which `alone` tells with its cause
pub record IsScriptAlone (text : List ℕ) (refusal : Refusal) : Type 0 where
  pub script : Tree
  pub is_script : IsScript script
  pub front : script_part text ≡ spelling script
  pub alone : Refusal
  pub no_log : HasLogCause script (log_part text) (faults.Refused alone)
  pub told : refusal ≡ behind (script_part text) alone

-- ---- neither

-- the text has too long a script before that line or none at all, or from there on no log of that script
abbrev pub IsNoPair : List ℕ → Refusal → Type 0
IsNoPair text refusal = IsLongFront text refusal ⊎ (IsNoFront text refusal ⊎ IsScriptAlone text refusal)

-- a refusal has its cause, and want of memory says nothing
abbrev pub HasNoPair : List ℕ → ReadFault → Type 0
HasNoPair text (faults.Refused refusal) = IsNoPair text refusal
HasNoPair text faults.Memory = ⊤

-- the input was read to its end and is no script with a log, which the refusal tells, or one byte more than such a text may have was read, and it is told that it is too long
pub record ReadNoPair (left left' : Option (List ℕ)) (refusal : Refusal) : Type 0 where
  pub text : List ℕ
  pub input : Consumes left left' text
  pub refused : (IsAtEnd left' × IsNoPair text refusal) ⊎ ((length text ≡ 268435457) × (refusal ≡ too_long))
