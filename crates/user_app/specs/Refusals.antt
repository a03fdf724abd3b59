-- What is written where an input is refused, and how that may end.
use Rattle.std.specs.Prelude.{◌≡◌, ℕ, List, ◌++◌, Option, codes}
use Rattle.std.specs.Io.KnownBytes.{Appends}
use Rattle.user_io.specs.Outside.{Rose, AppendsPart}
use Rattle.user_io.specs.Text.{operand}
use Rattle.script_text.specs.declared.fault.Reason.{Reason}
use Rattle.script_text.specs.declared.fault.Reason.TheVariants as reasons
use Rattle.script_text.specs.declared.fault.Refusal.{Refusal}
use Rattle.user_app.specs.declared.status.Status.{Status}
use Rattle.user_app.specs.declared.status.Status.TheVariants as statuses

-- the word of a reason
abbrev pub reason_word : Reason → List ℕ
reason_word reasons.Bytes = codes "bytes"
reason_word reasons.Words = codes "words"
reason_word reasons.Operand = codes "operand"
reason_word reasons.Name = codes "name"
reason_word reasons.Repeated = codes "repeated"
reason_word reasons.Limit = codes "limit"
reason_word reasons.End = codes "end"
reason_word reasons.Long = codes "long"

-- the line of a refusal: where it is, and why
abbrev pub refusal_text : Refusal → List ℕ
refusal_text r = codes "refused" ++ (operand r.line ++ (codes " " ++ (reason_word r.reason ++ codes "\n")))

-- the refusal of a text that is too long
abbrev pub too_long : Refusal
too_long = record { line = 0; reason = reasons.Long }

-- an input is refused so, for this cause, and the line of its refusal was written
pub record Refused (Cause : Refusal → Type 0) (holds holds' : Option (List ℕ)) : Type 0 where
  pub refusal : Refusal
  pub cause : Cause refusal
  pub written : Appends holds holds' (refusal_text refusal)

-- a front of that line was written
pub record RefusedPart (Cause : Refusal → Type 0) (holds holds' : Option (List ℕ)) : Type 0 where
  pub refusal : Refusal
  pub cause : Cause refusal
  pub written : AppendsPart holds holds' (refusal_text refusal)

-- how the line of a refusal may be written
abbrev pub Refuses : Refusal → Option (List ℕ) → Option (List ℕ) → ℕ → ℕ → Status → Type 0
Refuses refusal holds holds' faults faults' statuses.Script = Appends holds holds' (refusal_text refusal)
Refuses refusal holds holds' faults faults' statuses.WriteFault = AppendsPart holds holds' (refusal_text refusal) × Rose faults faults'
Refuses refusal holds holds' faults faults' statuses.Memory = holds ≡ holds'
Refuses refusal holds holds' faults faults' _ = ⊥
