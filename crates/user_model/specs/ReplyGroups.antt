-- The answers of the calls on focus, active window, capture and attached threads.
use Rattle.std.specs.Prelude.{ℕ, ◌==◌, Bool, not, ◌&&◌, ◌||◌}
use Rattle.user_model.specs.declared.entry.Setup.{Setup}
use Rattle.user_model.specs.declared.entry.Answer.{Answer}
use Rattle.user_model.specs.declared.entry.Answer.TheVariants.{Okay, Was}
use Rattle.user_model.specs.Past.{Past}
use Rattle.user_model.specs.Threads.{is_running}
use Rattle.user_model.specs.Windows.{live, is_live, thread_of, parent_in}
use Rattle.user_model.specs.Looks.{is_disabled}
use Rattle.user_model.specs.Groups.{is_in_group, are_attached}
use Rattle.user_model.specs.Focus.{Slot, focus, active, capture, value_of}
use Rattle.user_model.specs.Refusals.{refuse, if_own, invalid_parameter, invalid_window_handle, access_denied}
use Rattle.user_model.specs.ReplyWindows.{window_told}

-- the window that the caller's group had
abbrev pub was : Past → ℕ → Slot → Answer
was past who slot = Was (record { 0 = value_of past who slot })

-- the window that the caller's group has
abbrev pub value_reply : Past → ℕ → Slot → Answer
value_reply past who slot = window_told (value_of past who slot)

-- whether the number is neither 0 nor a live window
abbrev pub is_no_window : Past → ℕ → Bool
is_no_window past w = not ((w == 0) || is_live past w)

-- whether the window is of a thread outside the caller's group
abbrev pub is_of_others : Past → ℕ → ℕ → Bool
is_of_others past who w = not (w == 0) && not (is_in_group past who (thread_of past w))

-- what the slot was, where 0 or a live window of the caller's group is to be set
abbrev pub if_of_caller : Past → ℕ → ℕ → Slot → Answer
if_of_caller past who w slot = refuse (is_no_window past w) invalid_window_handle (refuse (is_of_others past who w) access_denied (was past who slot))

-- the focus is set, to a window that isn't disabled
abbrev pub set_focus_reply : Past → ℕ → ℕ → Answer
set_focus_reply past who w = refuse (is_live past w && is_disabled past w) invalid_parameter (if_of_caller past who w focus)

-- the active window is set, to one that is no child
abbrev pub set_active_reply : Past → ℕ → ℕ → Answer
set_active_reply past who w = refuse (is_live past w && not (parent_in (live past) w == 0)) invalid_parameter (if_of_caller past who w active)

-- the capture is set, to an own window
abbrev pub set_capture_reply : Past → ℕ → ℕ → Answer
set_capture_reply past who w = if_own past who w (was past who capture)

-- whether the two are no two running threads that aren't attached to each other yet
abbrev pub is_no_pair : Setup → Past → ℕ → ℕ → Bool
is_no_pair setup past t u = (t == u) || (not (is_running setup past t) || (not (is_running setup past u) || are_attached past t u))

-- two threads are attached to each other
abbrev pub attach_reply : Setup → Past → ℕ → ℕ → Answer
attach_reply setup past t u = refuse (is_no_pair setup past t u) invalid_parameter Okay

-- an attachment is undone
abbrev pub detach_reply : Past → ℕ → ℕ → Answer
detach_reply past t u = refuse (not (are_attached past t u)) invalid_parameter Okay
