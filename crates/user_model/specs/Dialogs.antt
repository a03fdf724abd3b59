-- Dialogs: on which window one stands, and how.
use Rattle.std.specs.Prelude.{if◌then◌else◌, ℕ, ◌==◌, Option, Some, None, unwrap_or}
use Rattle.user_model.specs.declared.call.Call.{Call}
use Rattle.user_model.specs.declared.call.Call.TheVariants.{BeginDialog, DialogState, EndDialog}
use Rattle.user_model.specs.declared.dialog.Dialog.{Dialog}
use Rattle.user_model.specs.declared.dialog.Dialog.TheVariants.{Running, Finished}
use Rattle.user_model.specs.declared.entry.Answer.{Answer}
use Rattle.user_model.specs.declared.entry.Answer.TheVariants.{Okay, Window as OwnerTold, Finished as ResultTold}
use Rattle.user_model.specs.Past.{Past, last_of}

-- what a call that is answered so makes of the dialog on w: it begins, it gets a result, or it is over once that was told
abbrev pub turned : ℕ → Answer → Call → Option (Option Dialog)
turned w (OwnerTold owner) (BeginDialog v) = if v == w then Some (Some Running) else None
turned w Okay (EndDialog v result) = if v == w then Some (Some (Finished result)) else None
turned w (ResultTold result) (DialogState v) = if v == w then Some None else None
turned w _ _ = None

-- the dialog on w, if there is one
abbrev pub dialog : Past → ℕ → Option Dialog
dialog past w = unwrap_or (last_of (λ e before. turned w e.answer e.call) past) None
