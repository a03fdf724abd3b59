-- The answers of dispatches, of sends and of the calls inside them.
use Rattle.std.specs.Prelude.{if◌then◌else◌, ℕ, suc, ◌==◌, ◌+◌, nat_lt, nat_le, Bool, false, not, ◌&&◌, ◌||◌, length, Option, Some, None, unwrap_or}
use Rattle.win_num.specs.declared.send.Kind.{Kind}
use Rattle.win_num.specs.declared.send.Kind.TheVariants.{Wait as WaitKind, Timeout as WithTimeout, Notify, Callback as WithCallback}
use Rattle.win_num.specs.declared.send.Cause.TheVariants.{Timeout as ByTimeout}
use Rattle.win_num.specs.declared.send.Frame.{Frame}
use Rattle.win_num.specs.declared.send.Frame.TheVariants.{Entered, Inside as InsideFrame}
use Rattle.win_num.specs.declared.code.Code.TheVariants.{Full}
use Rattle.win_num.specs.declared.names.TheConstants.{SMTO_BLOCK}
use Rattle.user_model.specs.declared.entry.Setup.{Setup}
use Rattle.user_model.specs.declared.entry.Answer.{Answer}
use Rattle.user_model.specs.declared.entry.Answer.TheVariants.{Okay, Wait, Value, Called, Inside, Begun, Left, Callback, Done}
use Rattle.user_model.specs.Past.{Past}
use Rattle.user_model.specs.Places.{clock}
use Rattle.user_model.specs.Windows.{has_flag, thread_of}
use Rattle.user_model.specs.Classes.{proc_of}
use Rattle.user_model.specs.Stacks.{top, has_room}
use Rattle.user_model.specs.Sends.{SentMsg, send, sends, answer, is_answered, unfinished}
use Rattle.user_model.specs.Next.{next_ready}
use Rattle.user_model.specs.Refusals.{refuse, if_live, if_own, is_no_message, has_beyond, invalid_parameter, stack_overflow}

-- the window's procedure is called; nothing where there is no window
abbrev pub dispatch_to : Past → ℕ → ℕ → Answer
dispatch_to past who w = if w == 0 then Okay else if_own past who w (refuse (not (has_room past who)) stack_overflow (Called (proc_of past w)))

-- a message handed to the procedure of an own window
abbrev pub dispatch_reply : Past → ℕ → ℕ → ℕ → Answer
dispatch_reply past who w number = refuse (is_no_message number) invalid_parameter (dispatch_to past who w)

-- the number that the next send gets
abbrev pub next_send_number : Past → ℕ
next_send_number past = suc (length (sends past))

-- a send to an own window goes inside, any other is begun
abbrev pub send_made : Past → ℕ → ℕ → Answer
send_made past who w = if thread_of past w == who then Inside (record { 0 = next_send_number past }) (proc_of past w) else Begun (record { 0 = next_send_number past })

-- at most 1,024 sends are unfinished
abbrev pub send_if_room : Past → ℕ → ℕ → Answer
send_if_room past who w = refuse (nat_le 1024 (length (unfinished past))) Full (send_made past who w)

-- a send that always pushes a frame
abbrev pub waiting_send : Past → ℕ → ℕ → Answer
waiting_send past who w = if_live past w (refuse (not (has_room past who)) stack_overflow (send_if_room past who w))

-- a send that pushes a frame only inside
abbrev pub other_send : Past → ℕ → ℕ → Answer
other_send past who w = if_live past w (refuse ((thread_of past w == who) && not (has_room past who)) stack_overflow (send_if_room past who w))

-- a send that waits
abbrev pub send_reply : Past → ℕ → ℕ → ℕ → Answer
send_reply past who w number = refuse (is_no_message number) invalid_parameter (waiting_send past who w)

-- a send that waits for a time, with flags that the setup has
abbrev pub send_timeout_reply : Setup → Past → ℕ → ℕ → ℕ → ℕ → ℕ → Answer
send_timeout_reply setup past who w number flags ms = refuse (is_no_message number || (has_beyond flags setup.smto || nat_lt 4294967295 ms)) invalid_parameter (waiting_send past who w)

-- a send that doesn't wait
abbrev pub send_other_reply : Past → ℕ → ℕ → ℕ → Answer
send_other_reply past who w number = refuse (is_no_message number) invalid_parameter (other_send past who w)

-- the time at which a timeout send gives up
abbrev pub deadline_in : SentMsg → Kind → Option ℕ
deadline_in x (WithTimeout flags ms) = Some (x.time + ms)
deadline_in x _ = None

-- the time at which send s gives up, if it is a timeout send
abbrev pub deadline : Past → ℕ → Option ℕ
deadline past s = elim (send past s) [ Some x ↦ deadline_in x x.kind | None ↦ None ]

-- whether the kind has SMTO_BLOCK
abbrev pub blocks_in : Kind → Bool
blocks_in (WithTimeout flags ms) = has_flag flags SMTO_BLOCK
blocks_in _ = false

-- whether the sender serves nobody while it waits
abbrev pub blocks : Past → ℕ → Bool
blocks past s = elim (send past s) [ Some x ↦ blocks_in x.kind | None ↦ false ]

-- whether there is a time and it has come
abbrev pub has_come : Option ℕ → ℕ → Bool
has_come (Some time) now = nat_le time now
has_come None now = false

-- what a waiting sender runs meanwhile, or to wait
abbrev pub served : Past → ℕ → ℕ → Answer
served past who s = if blocks past s then Wait else unwrap_or (next_ready past who) Wait

-- the answer of the send; the end of its time; what is ready; or to wait
abbrev pub await_reply : Past → ℕ → ℕ → Answer
await_reply past who s = elim (answer past s) [ Some o ↦ Done o.result o.cause | None ↦ (if has_come (deadline past s) (clock past) then Done 0 ByTimeout else served past who s) ]

-- what leaving an inside frame answers
abbrev pub left_inside : SentMsg → Kind → ℕ → Answer
left_inside x (WithCallback proc_no extra) v = Callback (record { 0 = x.number }) proc_no (record { 0 = x.hwnd }) x.message extra v
left_inside x _ v = Left (record { 0 = x.number })

-- an inside callback send calls back at once; else it is told which send was left, or 0
abbrev pub leave_from : Past → Option Frame → ℕ → Answer
leave_from past (Some (InsideFrame s)) v = elim (send past s.0) [ Some x ↦ left_inside x x.kind v | None ↦ Left s ]
leave_from past (Some (Entered s)) v = Left s
leave_from past _ v = Left (record { 0 = 0 })

-- a procedure is left
abbrev pub leave_reply : Past → ℕ → ℕ → Answer
leave_reply past who v = leave_from past (top past who) v

-- 1 where a send without an answer was entered on top
abbrev pub reply_in : Past → Option Frame → Answer
reply_in past (Some (Entered s)) = Value (if is_answered past s.0 then 0 else 1)
reply_in past _ = Value 0

-- a reply before the procedure is left
abbrev pub reply_reply : Past → ℕ → Answer
reply_reply past who = reply_in past (top past who)

-- 1 for the waiting kinds, 2 for notify, 4 for callback
abbrev pub kind_number : Kind → ℕ
kind_number WaitKind = 1
kind_number (WithTimeout flags ms) = 1
kind_number Notify = 2
kind_number (WithCallback proc_no extra) = 4

-- the same of a send that may be none
abbrev pub send_kind_number : Option SentMsg → ℕ
send_kind_number (Some x) = kind_number x.kind
send_kind_number None = 0

-- the kind of the send that was entered on top, plus 8 where it has an answer; else 0
abbrev pub in_send_at : Past → Option Frame → Answer
in_send_at past (Some (Entered s)) = Value (send_kind_number (send past s.0) + (if is_answered past s.0 then 8 else 0))
in_send_at past _ = Value 0

-- which kind of send the caller is in
abbrev pub in_send_reply : Past → ℕ → Answer
in_send_reply past who = in_send_at past (top past who)
