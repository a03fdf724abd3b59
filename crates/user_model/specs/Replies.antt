-- The answer of each call of a thread.
use Rattle.std.specs.Prelude.{ℕ, ◌==◌, Bool, true, false, not, Option, Some, None}
use Rattle.win_num.specs.declared.send.Frame.{Frame}
use Rattle.win_num.specs.declared.send.Frame.TheVariants.{Await as AwaitFrame}
use Rattle.win_num.specs.declared.code.Code.TheVariants.{NotNow}
use Rattle.user_model.specs.declared.entry.Setup.{Setup}
use Rattle.user_model.specs.declared.entry.Answer.{Answer}
use Rattle.user_model.specs.declared.entry.Answer.TheVariants.{Okay, Ended, Refused}
use Rattle.user_model.specs.declared.call.Call.{Call}
use Rattle.user_model.specs.declared.call.Call.TheVariants.{Peek, Get, Post, PostThread, PostQuit, Status, Dispatch, Send, SendTimeout, SendNotify, SendCallback, Await, Leave, Reply, InSend, Message, Translate, Register, Unregister, NewWindow, Doom, Unmake, Drop, Place, Show, Enable, Find, AwaitTitle, NextTop, ChildAfter, StyleOf, WindowAt, IsWindow, Parent, SetFocus, SetActive, SetCapture, ReleaseCapture, GetFocus, GetActive, GetCapture, Attach, Detach, Mouse, Key, KeyState, BeginDialog, DialogState, EndDialog, Invalidate, Validate, UpdateRect, BeginPaint, EndPaint, Fill, Erase, Snap, SetTimer, KillTimer, EndThread, Clock, SleepUntil, Yield, Tick, Advance}
use Rattle.user_model.specs.Past.{Past}
use Rattle.user_model.specs.ReplyDelivery.{peek_reply, get_reply, post_reply, post_thread_reply, status_reply}
use Rattle.user_model.specs.ReplyWindows.{register_reply, unregister_reply, message_reply, new_window_reply, doom_reply, unmake_reply, drop_reply, place_reply, show_reply, enable_reply, find_reply, await_title_reply, next_top_reply, child_after_reply, style_of_reply, window_at_reply, is_window_reply, parent_reply}
use Rattle.user_model.specs.Focus.{focus, active, capture}
use Rattle.user_model.specs.ReplyGroups.{set_focus_reply, set_active_reply, set_capture_reply, was, value_reply, attach_reply, detach_reply}
use Rattle.user_model.specs.ReplyInput.{mouse_reply, key_reply, key_state_reply, translate_reply}
use Rattle.user_model.specs.ReplyDialogs.{begin_dialog_reply, dialog_state_reply, end_dialog_reply}
use Rattle.user_model.specs.ReplyDrawing.{invalidate_reply, validate_reply, update_rect_reply, begin_paint_reply, end_paint_reply, fill_reply, erase_reply, snap_reply}
use Rattle.user_model.specs.ReplySends.{dispatch_reply, send_reply, send_timeout_reply, send_other_reply, await_reply, leave_reply, reply_reply, in_send_reply}
use Rattle.user_model.specs.ReplyClock.{clock_reply, sleep_until_reply, set_timer_reply, kill_timer_reply}
use Rattle.user_model.specs.Stacks.{top}
use Rattle.user_model.specs.Refusals.{refuse}
use Rattle.user_model.specs.Threads.{is_running}

-- the answer of a thread's call that may be made now
abbrev pub row : Setup → Past → ℕ → Call → Answer
row setup past who (Peek w min max flags) = peek_reply setup past who w min max flags
row setup past who (Get w min max) = get_reply setup past who w min max
row setup past who (Post w number wparam lparam) = post_reply setup past who w number
row setup past who (PostThread t number wparam lparam) = post_thread_reply setup past t number
row setup past who (PostQuit code) = Okay
row setup past who (Status flags) = status_reply setup past who flags
row setup past who (Dispatch w number wparam lparam) = dispatch_reply past who w number
row setup past who (Send w number wparam lparam) = send_reply past who w number
row setup past who (SendTimeout w number wparam lparam flags ms) = send_timeout_reply setup past who w number flags ms
row setup past who (SendNotify w number wparam lparam) = send_other_reply past who w number
row setup past who (SendCallback w number wparam lparam proc_no extra) = send_other_reply past who w number
row setup past who (Await s) = await_reply past who s
row setup past who (Leave v) = leave_reply past who v
row setup past who (Reply v) = reply_reply past who
row setup past who InSend = in_send_reply past who
row setup past who (Message name) = message_reply past name
row setup past who (Translate w number key lparam) = translate_reply setup past who w number key
row setup past who (Register name proc_no colour) = register_reply past name colour
row setup past who (Unregister name) = unregister_reply past name
row setup past who (NewWindow class title parent style ex l t r b) = new_window_reply past who class parent style ex l t r b
row setup past who (Doom w) = doom_reply past who w
row setup past who (Unmake w) = unmake_reply past who w
row setup past who (Drop w) = drop_reply past who w
row setup past who (Place w after l t r b flags) = place_reply past w after l t r b flags
row setup past who (Show w on) = show_reply past w on
row setup past who (Enable w on) = enable_reply past w on
row setup past who (Find title) = find_reply past title
row setup past who (AwaitTitle title) = await_title_reply past title
row setup past who (NextTop w) = next_top_reply past w
row setup past who (ChildAfter w v) = child_after_reply past w v
row setup past who (StyleOf w) = style_of_reply past w
row setup past who (WindowAt x y) = window_at_reply setup past x y
row setup past who (IsWindow w) = is_window_reply past w
row setup past who (Parent w) = parent_reply past w
row setup past who (SetFocus w) = set_focus_reply past who w
row setup past who (SetActive w) = set_active_reply past who w
row setup past who (SetCapture w) = set_capture_reply past who w
row setup past who ReleaseCapture = was past who capture
row setup past who GetFocus = value_reply past who focus
row setup past who GetActive = value_reply past who active
row setup past who GetCapture = value_reply past who capture
row setup past who (Attach t u) = attach_reply setup past t u
row setup past who (Detach t u) = detach_reply past t u
row setup past who (Mouse number x y) = mouse_reply setup past number x y
row setup past who (Key down key) = key_reply setup past down key
row setup past who (KeyState key) = key_state_reply past who key
row setup past who (BeginDialog w) = begin_dialog_reply past who w
row setup past who (DialogState w) = dialog_state_reply past who w
row setup past who (EndDialog w v) = end_dialog_reply past who w
row setup past who (Invalidate w l t r b erase) = invalidate_reply past w l t r b erase
row setup past who (Validate w l t r b) = validate_reply past w l t r b
row setup past who (UpdateRect w) = update_rect_reply setup past w
row setup past who (BeginPaint w) = begin_paint_reply setup past who w
row setup past who (EndPaint w) = end_paint_reply past who w
row setup past who (Fill w l t r b colour) = fill_reply past who w l t r b colour
row setup past who (Erase w) = erase_reply past who w
row setup past who Snap = snap_reply past
row setup past who (SetTimer w id ms) = set_timer_reply past who w id
row setup past who (KillTimer w id) = kill_timer_reply past who w id
row setup past who EndThread = Ended
row setup past who Clock = clock_reply past
row setup past who (SleepUntil time) = sleep_until_reply past time
row setup past who Yield = Okay
row setup past who (Tick ms) = Refused NotNow
row setup past who Advance = Refused NotNow

-- whether the top of the stack forbids the call: an await allows only its own await, leave needs a procedure frame, and a thread ends with an empty stack
abbrev pub is_barred_by : Call → Option Frame → Bool
is_barred_by (Await s) (Some (AwaitFrame t)) = not (t.0 == s)
is_barred_by (Await s) _ = true
is_barred_by _ (Some (AwaitFrame t)) = true
is_barred_by (Leave v) None = true
is_barred_by EndThread (Some f) = true
is_barred_by _ _ = false

-- the answer of a thread that runs: not now where its stack forbids the call
abbrev pub stack_reply : Setup → Past → ℕ → Call → Answer
stack_reply setup past who call = refuse (is_barred_by call (top past who)) NotNow (row setup past who call)

-- the answer of any call of a thread: a number that is no thread's, or a thread that has ended, makes none
abbrev pub thread_reply : Setup → Past → ℕ → Call → Answer
thread_reply setup past who call = refuse (not (is_running setup past who)) NotNow (stack_reply setup past who call)
