-- The dialogs that are kept, by the numbers of their windows.
use Rattle.std.specs.Prelude.{if◌then◌else◌, ◌≡◌, ℕ, ◌==◌, Bool, true, false, List, Option, unwrap_or}
use Rattle.std.specs.Ordering.{nat_cmp}
use Rattle.std.specs.Map.{lookup}
use Rattle.std.specs.BTreeMap.{is_at}
use Rattle.user_model.specs.declared.call.Call.{Call}
use Rattle.user_model.specs.declared.call.Call.TheVariants.{BeginDialog, DialogState, EndDialog}
use Rattle.user_model.specs.declared.dialog.Dialog.{Dialog}
use Rattle.user_model.specs.declared.entry.Answer.{Answer}
use Rattle.user_model.specs.declared.entry.Answer.TheVariants.{Okay, Window as OwnerTold, Finished as ResultTold}
use Rattle.user_model.specs.Past.{Past}
use Rattle.user_model.specs.Dialogs.{turned, dialog}

-- the dialog that is kept of a window
abbrev pub dialog_in : List (ℕ × Dialog) → ℕ → Option Dialog
dialog_in ds w = lookup (is_at (nat_cmp w)) ds

-- whether a call that is answered so does something to a dialog
abbrev pub turns : Answer → Call → Bool
turns (OwnerTold owner) (BeginDialog w) = true
turns Okay (EndDialog w result) = true
turns (ResultTold result) (DialogState w) = true
turns _ _ = false

-- the dialog on w is this one, or none, and all others are as before
abbrev pub IsPut : ℕ → Option Dialog → List (ℕ × Dialog) → List (ℕ × Dialog) → Type 0
IsPut w d old new = (v : ℕ) → dialog_in new v ≡ (if w == v then d else dialog_in old v)

-- on each window the dialog is what a call that is answered so makes of it
abbrev pub Follows : Answer → Call → List (ℕ × Dialog) → List (ℕ × Dialog) → Type 0
Follows a call old new = (v : ℕ) → dialog_in new v ≡ unwrap_or (turned v a call) (dialog_in old v)

-- the dialogs are those of the past; those on windows that are gone stay as they were
abbrev pub AreDialogsAt : Past → List (ℕ × Dialog) → Type 0
AreDialogsAt past ds = (w : ℕ) → dialog_in ds w ≡ dialog past w
