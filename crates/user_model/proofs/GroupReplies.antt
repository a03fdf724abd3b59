-- What the answers of the calls on focus, active window, capture and attached threads tell.
use Rattle.std.proofs.Common.{◌≡◌, ℕ, true, false, not, eqb, refl}
use Rattle.std.specs.Prelude.{◌&&◌, ◌||◌}
use Rattle.std.proofs.lemmas.Bool.{or_parts}
use Rattle.user_model.specs.declared.call.Call.TheVariants as calls
use Rattle.user_model.specs.declared.entry.Answer.{Answer}
use Rattle.user_model.specs.declared.entry.Answer.TheVariants as answers
use Rattle.user_model.specs.declared.entry.Setup.{Setup}
use Rattle.user_model.specs.Past.{Past, is_refusal}
use Rattle.user_model.specs.Threads.{is_running}
use Rattle.user_model.specs.Windows.{live, is_live, thread_of, parent_in}
use Rattle.user_model.specs.Looks.{is_disabled}
use Rattle.user_model.specs.Groups.{are_attached, is_in_group}
use Rattle.user_model.specs.Focus.{Slot, focus, active, capture}
use Rattle.user_model.specs.Refusals.{invalid_parameter, invalid_window_handle, access_denied}
use Rattle.user_model.specs.ReplyGroups.{was, is_no_window, is_of_others, is_no_pair, if_of_caller}
use Rattle.user_model.specs.Idle.{reply}
use Rattle.user_model.proofs.ReplyLaws.{not_refused, not_false, by_call}
use Rattle.user_model.proofs.WindowReplies.{IsOwn}

-- a thread that runs set 0 or a live window of its group, and was told what was there
pub record IsSetting (setup : Setup) (past : Past) (who w : ℕ) (slot : Slot) (a : Answer) : Type 0 where
  pub running : is_running setup past who ≡ true
  pub window : (eqb w 0 || is_live past w) ≡ true
  pub of_group : (not (eqb w 0) && not (is_in_group past who (thread_of past w))) ≡ false
  pub is_told : was past who slot ≡ a

set_by_caller : (setup : Setup) (past : Past) (who w : ℕ) (slot : Slot) (a : Answer) → is_running setup past who ≡ true → is_refusal a ≡ false → if_of_caller past who w slot ≡ a → IsSetting setup past who w slot a
set_by_caller setup past who w slot a running fine e =
    let window = not_refused (is_no_window past w) invalid_window_handle _ a fine e in
    let group = not_refused (is_of_others past who w) access_denied (was past who slot) a fine window.1 in
    record { running = running; window = not_false (eqb w 0 || is_live past w) window.0; of_group = group.0; is_told = group.1 }

-- the focus was set
pub set_focus_told : (setup : Setup) (past : Past) (who w : ℕ) (a : Answer) → reply setup past who (calls.SetFocus w) ≡ a → is_refusal a ≡ false → IsSetting setup past who w focus a
set_focus_told setup past who w a e fine =
    let by = by_call setup past who (calls.SetFocus w) a e refl fine in
    let enabled = not_refused (is_live past w && is_disabled past w) invalid_parameter (if_of_caller past who w focus) a fine by.is_row in
    set_by_caller setup past who w focus a by.running fine enabled.1

-- the active window was set
pub set_active_told : (setup : Setup) (past : Past) (who w : ℕ) (a : Answer) → reply setup past who (calls.SetActive w) ≡ a → is_refusal a ≡ false → IsSetting setup past who w active a
set_active_told setup past who w a e fine =
    let by = by_call setup past who (calls.SetActive w) a e refl fine in
    let top = not_refused (is_live past w && not (eqb (parent_in (live past) w) 0)) invalid_parameter (if_of_caller past who w active) a fine by.is_row in
    set_by_caller setup past who w active a by.running fine top.1

-- the capture was set, to an own live window
pub set_capture_told : (setup : Setup) (past : Past) (who w : ℕ) (a : Answer) → reply setup past who (calls.SetCapture w) ≡ a → is_refusal a ≡ false → IsOwn setup past who w × (was past who capture ≡ a)
set_capture_told setup past who w a e fine =
    let by = by_call setup past who (calls.SetCapture w) a e refl fine in
    let live = not_refused (not (is_live past w)) invalid_window_handle _ a fine by.is_row in
    let own = not_refused (not (eqb (thread_of past w) who)) access_denied (was past who capture) a fine live.1 in
    (record { running = by.running; is_live = not_false (is_live past w) live.0; own = not_false (eqb (thread_of past w) who) own.0 }, own.1)

-- the capture was taken away
pub release_told : (setup : Setup) (past : Past) (who : ℕ) (a : Answer) → reply setup past who calls.ReleaseCapture ≡ a → is_refusal a ≡ false → (is_running setup past who ≡ true) × (was past who capture ≡ a)
release_told setup past who a e fine =
    let by = by_call setup past who calls.ReleaseCapture a e refl fine in
    (by.running, by.is_row)

-- two threads that run were attached to each other, which weren't
pub record IsAttaching (setup : Setup) (past : Past) (t u : ℕ) (a : Answer) : Type 0 where
  pub differ : eqb t u ≡ false
  pub one : is_running setup past t ≡ true
  pub other : is_running setup past u ≡ true
  pub apart : are_attached past t u ≡ false
  pub is_okay : answers.Okay ≡ a

pub attach_told : (setup : Setup) (past : Past) (who t u : ℕ) (a : Answer) → reply setup past who (calls.Attach t u) ≡ a → is_refusal a ≡ false → IsAttaching setup past t u a
attach_told setup past who t u a e fine =
    let by = by_call setup past who (calls.Attach t u) a e refl fine in
    let pair = not_refused (is_no_pair setup past t u) invalid_parameter answers.Okay a fine by.is_row in
    let differ = or_parts (eqb t u) (not (is_running setup past t) || (not (is_running setup past u) || are_attached past t u)) pair.0 in
    let first = or_parts (not (is_running setup past t)) (not (is_running setup past u) || are_attached past t u) differ.1 in
    let second = or_parts (not (is_running setup past u)) (are_attached past t u) first.1 in
    record { differ = differ.0; one = not_false (is_running setup past t) first.0; other = not_false (is_running setup past u) second.0; apart = second.1; is_okay = pair.1 }

-- an attachment was undone
pub detach_told : (setup : Setup) (past : Past) (who t u : ℕ) (a : Answer) → reply setup past who (calls.Detach t u) ≡ a → is_refusal a ≡ false → (are_attached past t u ≡ true) × (answers.Okay ≡ a)
detach_told setup past who t u a e fine =
    let by = by_call setup past who (calls.Detach t u) a e refl fine in
    let pair = not_refused (not (are_attached past t u)) invalid_parameter answers.Okay a fine by.is_row in
    (not_false (are_attached past t u) pair.0, pair.1)

-- a thread that ends runs until then
pub end_told : (setup : Setup) (past : Past) (who : ℕ) (a : Answer) → reply setup past who calls.EndThread ≡ a → is_refusal a ≡ false → (is_running setup past who ≡ true) × (answers.Ended ≡ a)
end_told setup past who a e fine =
    let by = by_call setup past who calls.EndThread a e refl fine in
    (by.running, by.is_row)
