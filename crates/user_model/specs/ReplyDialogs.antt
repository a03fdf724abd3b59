-- The answers of the calls on dialogs.
use Rattle.std.specs.Prelude.{ℕ, ◌==◌, not, ◌&&◌, Option, Some, None, is_some, is_none, unwrap_or, option_map}
use Rattle.user_model.specs.declared.dialog.Dialog.{Dialog}
use Rattle.user_model.specs.declared.dialog.Dialog.TheVariants as dialogs
use Rattle.user_model.specs.declared.entry.Answer.{Answer}
use Rattle.user_model.specs.declared.entry.Answer.TheVariants.{Okay, Gone, Running, Finished}
use Rattle.user_model.specs.Past.{Past}
use Rattle.user_model.specs.Windows.{Window, window, is_live}
use Rattle.user_model.specs.Dialogs.{dialog}
use Rattle.user_model.specs.Refusals.{refuse, if_own, invalid_parameter, access_denied}
use Rattle.user_model.specs.ReplyWindows.{window_told}

-- the owner of a window, or 0
abbrev pub owner_of : Past → ℕ → ℕ
owner_of past w = unwrap_or (option_map (λ x. x.owner) (window past w)) 0

-- a dialog begins on an own window that has none: the window's owner, or 0
abbrev pub begin_dialog_reply : Past → ℕ → ℕ → Answer
begin_dialog_reply past who w = refuse (is_live past w && is_some (dialog past w)) invalid_parameter (if_own past who w (window_told (owner_of past w)))

-- how a dialog stands, as an answer
abbrev pub standing_told : Option Dialog → Answer
standing_told (Some (dialogs.Finished v)) = Finished v
standing_told _ = Running

-- how the dialog on a live window stands
abbrev pub standing_reply : Past → ℕ → ℕ → Window → Answer
standing_reply past who w x = refuse (is_none (dialog past w)) invalid_parameter (refuse (not (x.thread == who)) access_denied (standing_told (dialog past w)))

-- how the dialog on a window stands, and whether the window is gone
abbrev pub dialog_state_reply : Past → ℕ → ℕ → Answer
dialog_state_reply past who w = elim (window past w) [ None ↦ Gone | Some x ↦ standing_reply past who w x ]

-- the dialog on an own window gets its result
abbrev pub end_dialog_reply : Past → ℕ → ℕ → Answer
end_dialog_reply past who w = refuse (is_live past w && is_none (dialog past w)) invalid_parameter (if_own past who w Okay)
