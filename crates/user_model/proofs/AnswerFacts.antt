-- What an answered call can be: for each answer what it says of its call, and of the past before it.
use Rattle.std.proofs.Common.{◌≡◌, ℕ, suc, Bool, true, false, eqb, [], length, Option, Some, None}
use Rattle.std.specs.Prelude.{◌⊎◌, ◌||◌, nat_le}
use Rattle.win_num.specs.declared.message.Filter.{Filter}
use Rattle.win_num.specs.declared.message.Hwnd.{Hwnd}
use Rattle.win_num.specs.declared.message.Msg.{Msg}
use Rattle.win_num.specs.declared.send.SendId.{SendId}
use Rattle.win_num.specs.declared.send.Cause.{Cause}
use Rattle.win_num.specs.declared.send.Cause.TheVariants.{Timeout as ByTimeout}
use Rattle.win_num.specs.declared.send.Kind.TheVariants.{Callback as WithCallback}
use Rattle.win_num.specs.declared.send.Frame.{Frame}
use Rattle.win_num.specs.declared.send.Frame.TheVariants.{Entered, Inside as InsideFrame}
use Rattle.win_num.specs.declared.code.Code.{Code}
use Rattle.win_num.specs.declared.code.Code.TheVariants.{NotNow}
use Rattle.win_num.specs.declared.names.TheConstants.{WM_PAINT, WM_QUIT, WM_TIMER}
use Rattle.user_model.specs.declared.call.Call.{Call}
use Rattle.user_model.specs.declared.call.Call.TheVariants.{Dispatch, Await, Leave, Unmake, Snap, EndThread}
use Rattle.user_model.specs.declared.entry.Answer.{Answer}
use Rattle.user_model.specs.declared.entry.Answer.TheVariants as answers
use Rattle.user_model.specs.declared.entry.Origin.TheVariants as origins
use Rattle.user_model.specs.declared.entry.Setup.{Setup}
use Rattle.user_model.specs.Setups.{post_limit}
use Rattle.user_model.specs.Past.{Past}
use Rattle.user_model.specs.Places.{clock, cursor}
use Rattle.user_model.specs.Threads.{is_running}
use Rattle.user_model.specs.Deeds.{to_window, to_thread, posting_of, SendParts, parts_of, retrieves, is_serving}
use Rattle.user_model.specs.Keys.{is_shift_down}
use Rattle.user_model.specs.Inputs.{Element, Injection, injection, home_of}
use Rattle.user_model.specs.Targets.{target, message_for, to_take}
use Rattle.user_model.specs.Windows.{is_live, thread_of}
use Rattle.user_model.specs.Classes.{proc_of}
use Rattle.user_model.specs.Posts.{PostedMsg, PostedQuit, message, posted, queue_of, first_post, quit}
use Rattle.user_model.specs.Stacks.{top, has_room, waits}
use Rattle.user_model.specs.Sends.{SentMsg, Outcome, send, answer, unfinished}
use Rattle.user_model.specs.Ready.{to_enter, to_call_back, ready_head}
use Rattle.user_model.specs.Next.{next, next_ready, next_quit, result_of}
use Rattle.user_model.specs.Painting.{to_paint}
use Rattle.user_model.specs.Timers.{WinTimer, due}
use Rattle.user_model.specs.Colours.{snapped}
use Rattle.user_model.specs.Refusals.{is_no_message}
use Rattle.user_model.specs.ReplyDelivery.{next_post_number, is_no_post_window}
use Rattle.user_model.specs.ReplyInput.{next_input_number, has_no_place}
use Rattle.user_model.specs.ReplySends.{next_send_number, deadline, has_come}
use Rattle.user_model.proofs.ReplyLaws.{is_of_clock}

-- ---- posts and retrievals

-- post k was made by a call to a queue that had room, and has the next number
pub record IsPost (setup : Setup) (past : Past) (who : ℕ) (call : Call) (k : ℕ) : Type 0 where
  pub to : ℕ
  pub hwnd : ℕ
  pub number : ℕ
  pub wparam : ℕ
  pub lparam : ℕ
  pub is_call : (posting_of (is_shift_down past who) call ≡ Some (to_window hwnd number wparam lparam)) × (to ≡ queue_of past who hwnd) × (is_no_post_window past hwnd ≡ false) ⊎ (posting_of (is_shift_down past who) call ≡ Some (to_thread to number wparam lparam)) × (hwnd ≡ 0) × (is_running setup past to ≡ true)
  pub short : nat_le (post_limit setup to) (length (posted past to)) ≡ false
  pub fits : is_no_message number ≡ false
  pub is_next : k ≡ next_post_number past

-- a message was retrieved: nothing is ready, and it is the first post that the filter lets pass
pub record IsTaken (past : Past) (who : ℕ) (call : Call) (n : ℕ) (m : Msg) : Type 0 where
  pub pass : Filter
  pub is_call : retrieves call ≡ Some pass
  pub is_unready : next_ready past who ≡ None
  pub of : PostedMsg
  pub is_first : first_post past who pass ≡ Some of
  pub is_number : of.number ≡ n
  pub is_message : of.msg ≡ m

-- quit was retrieved: nothing is ready, no post is left, and quit stands with its code
pub record IsQuit (past : Past) (who : ℕ) (call : Call) (n : ℕ) (m : Msg) : Type 0 where
  pub pass : Filter
  pub is_call : retrieves call ≡ Some pass
  pub is_unready : next_ready past who ≡ None
  pub of : PostedQuit
  pub is_none : first_post past who pass ≡ None
  pub is_last : posted past who ≡ []
  pub stands : quit past who ≡ Some of
  pub is_zero : n ≡ 0
  pub is_message : m ≡ message 0 WM_QUIT of.code 0 (clock past) (cursor past)

-- an input was retrieved: nothing is ready, no post passes, quit doesn't come, and it is the first that the thread may take and that passes
pub record IsInput (setup : Setup) (past : Past) (who : ℕ) (call : Call) (n : ℕ) (m : Msg) : Type 0 where
  pub pass : Filter
  pub is_call : retrieves call ≡ Some pass
  pub is_unready : next_ready past who ≡ None
  pub is_none : first_post past who pass ≡ None
  pub no_quit : next_quit past who ≡ None
  pub of : Element
  pub is_first : to_take setup past who pass ≡ Some of
  pub is_number : n ≡ of.number
  pub is_message : m ≡ message_for past of (target setup past of)

-- WM_PAINT was retrieved: nothing is ready, no post passes, quit and input don't come, and the window is the first that wants it
pub record IsPaint (setup : Setup) (past : Past) (who : ℕ) (call : Call) (n : ℕ) (m : Msg) : Type 0 where
  pub pass : Filter
  pub is_call : retrieves call ≡ Some pass
  pub is_unready : next_ready past who ≡ None
  pub is_none : first_post past who pass ≡ None
  pub no_quit : next_quit past who ≡ None
  pub no_input : to_take setup past who pass ≡ None
  pub of : Hwnd
  pub is_first : to_paint setup past who pass ≡ Some of
  pub is_zero : n ≡ 0
  pub is_message : m ≡ message of.0 WM_PAINT 0 0 (clock past) (cursor past)

-- WM_TIMER was retrieved: nothing is ready, no post passes, quit, input and painting don't come, and the timer is the first that is due
pub record IsTimer (setup : Setup) (past : Past) (who : ℕ) (call : Call) (n : ℕ) (m : Msg) : Type 0 where
  pub pass : Filter
  pub is_call : retrieves call ≡ Some pass
  pub is_unready : next_ready past who ≡ None
  pub is_none : first_post past who pass ≡ None
  pub no_quit : next_quit past who ≡ None
  pub no_input : to_take setup past who pass ≡ None
  pub no_paint : to_paint setup past who pass ≡ None
  pub of : WinTimer
  pub is_first : due past who pass ≡ Some of
  pub is_zero : n ≡ 0
  pub is_message : m ≡ message of.hwnd WM_TIMER of.id 0 (clock past) (cursor past)

-- a retrieval with the filter finds no next message
abbrev pub NoneComes : Setup → Past → ℕ → Call → Type 0
NoneComes setup past who call = (pass : Filter) → retrieves call ≡ Some pass → next setup past who pass ≡ None

-- ---- sends

-- send s was made to a live window: inside where it is the caller's own
pub record IsMade (past : Past) (who : ℕ) (call : Call) (s : ℕ) (inside : Bool) : Type 0 where
  pub of : SendParts
  pub is_call : parts_of call ≡ Some of
  pub is_next : s ≡ next_send_number past
  pub lives : is_live past of.hwnd ≡ true
  pub is_own : eqb (thread_of past of.hwnd) who ≡ inside
  pub room : (inside || waits call) ≡ true → has_room past who ≡ true
  pub few : nat_le 1024 (length (unfinished past)) ≡ false

-- a send went inside, and the window's procedure runs
pub record IsInside (past : Past) (who : ℕ) (call : Call) (s proc_no : ℕ) : Type 0 where
  pub made : IsMade past who call s true
  pub is_proc : proc_no ≡ proc_of past made.of.hwnd

-- the first that is ready is a send, which is entered
pub record IsEntry (past : Past) (who : ℕ) (call : Call) (s proc_no w message wparam lparam : ℕ) : Type 0 where
  pub of : SentMsg
  pub serves : is_serving call ≡ true
  pub room : has_room past who ≡ true
  pub is_first : ready_head past who ≡ Some (to_enter of)
  pub is_send : s ≡ of.number
  pub is_proc : proc_no ≡ proc_of past of.hwnd
  pub is_window : w ≡ of.hwnd
  pub is_message : message ≡ of.message
  pub is_wparam : wparam ≡ of.wparam
  pub is_lparam : lparam ≡ of.lparam

-- the first that is ready is the result of a callback send, which is handed over
pub record IsResult (past : Past) (who : ℕ) (call : Call) (s proc_no w message extra result : ℕ) : Type 0 where
  pub of : SentMsg
  pub place : ℕ
  pub serves : is_serving call ≡ true
  pub room : has_room past who ≡ true
  pub is_first : ready_head past who ≡ Some (to_call_back of proc_no extra place)
  pub is_send : s ≡ of.number
  pub is_window : w ≡ of.hwnd
  pub is_message : message ≡ of.message
  pub is_result : result ≡ result_of (answer past of.number)

-- a callback send of the caller to itself was left, and its callback runs
pub record IsInsideResult (past : Past) (who : ℕ) (call : Call) (s proc_no w message extra result : ℕ) : Type 0 where
  pub of : SentMsg
  pub frame : SendId
  pub is_call : call ≡ Leave result
  pub is_top : top past who ≡ Some (InsideFrame frame)
  pub found : send past frame.0 ≡ Some of
  pub is_send : s ≡ of.number
  pub is_kind : of.kind ≡ WithCallback proc_no extra
  pub is_window : w ≡ of.hwnd
  pub is_message : message ≡ of.message

-- the send of the frame that is left, or 0
abbrev pub LeftFrom : Past → Option Frame → ℕ → Type 0
LeftFrom past (Some (Entered t)) s = s ≡ t.0
LeftFrom past (Some (InsideFrame t)) s = s ≡ t.0 ⊎ ((x : SentMsg) × (send past t.0 ≡ Some x) × (s ≡ x.number))
LeftFrom past _ s = s ≡ 0

-- a procedure was left
pub record IsLeft (past : Past) (who : ℕ) (call : Call) (s : ℕ) : Type 0 where
  pub result : ℕ
  pub is_call : call ≡ Leave result
  pub from : LeftFrom past (top past who) s

-- an await ends with the answer of its send, or where its time is over
pub record IsDone (past : Past) (who : ℕ) (call : Call) (result : ℕ) (cause : Cause) : Type 0 where
  pub s : ℕ
  pub is_call : call ≡ Await s
  pub how : ((o : Outcome) × (answer past s ≡ Some o) × (result ≡ o.result) × (cause ≡ o.cause)) ⊎ ((answer past s ≡ None) × (has_come (deadline past s) (clock past) ≡ true) × (result ≡ 0) × (cause ≡ ByTimeout))

-- a dispatch called the procedure of a live window of the caller
pub record IsCalled (past : Past) (who : ℕ) (call : Call) (proc_no : ℕ) : Type 0 where
  pub w : ℕ
  pub message : ℕ
  pub wparam : ℕ
  pub lparam : ℕ
  pub is_call : call ≡ Dispatch w message wparam lparam
  pub lives : is_live past w ≡ true
  pub is_own : eqb (thread_of past w) who ≡ true
  pub room : has_room past who ≡ true
  pub is_proc : proc_no ≡ proc_of past w

-- an input was injected: it is meant for a thread, whose group has a place for it, and has the next number
pub record IsInjected (setup : Setup) (past : Past) (call : Call) (k : ℕ) : Type 0 where
  pub of : Injection
  pub is_call : injection call ≡ Some of
  pub is_meant : eqb (home_of setup past of) 0 ≡ false
  pub room : has_no_place setup past of ≡ false
  pub is_next : k ≡ next_input_number past

-- a frame was kept, of the next number
pub record IsSnap (past : Past) (call : Call) (k : ℕ) : Type 0 where
  pub is_call : call ≡ Snap
  pub is_next : k ≡ suc (length (snapped past))

-- ---- all answers

-- a window's destruction was asked for its next step
abbrev pub IsUnmaking : Call → Type 0
IsUnmaking call = (w : ℕ) × (call ≡ Unmake w)

-- whether the refusal is that the call can't be made now
abbrev pub is_not_now : Code → Bool
is_not_now NotNow = true
is_not_now _ = false

-- a row refuses as not now the clock's calls alone
abbrev pub IsProper : Call → Code → Type 0
IsProper call code = (is_not_now code ≡ false) ⊎ (is_of_clock call ≡ true)

-- what each answer of a row says of its call
abbrev pub Says : Setup → Past → ℕ → Call → Answer → Type 0
Says setup past who call answers.Okay = Unit {0}
Says setup past who call answers.Ended = call ≡ EndThread
Says setup past who call answers.Nothing = NoneComes setup past who call
Says setup past who call answers.Wait = NoneComes setup past who call
Says setup past who call answers.Stuck = ⊥
Says setup past who call answers.Gone = Unit {0}
Says setup past who call answers.Running = Unit {0}
Says setup past who call (answers.Finished v) = Unit {0}
Says setup past who call (answers.Value v) = Unit {0}
Says setup past who call (answers.Window w) = Unit {0}
Says setup past who call (answers.Was w) = Unit {0}
Says setup past who call (answers.Posted k) = IsPost setup past who call k
Says setup past who call (answers.Input k) = IsInjected setup past call k
Says setup past who call (answers.Called proc_no) = IsCalled past who call proc_no
Says setup past who call (answers.Inside s proc_no) = IsInside past who call s.0 proc_no
Says setup past who call (answers.Begun s) = IsMade past who call s.0 false
Says setup past who call (answers.Left s) = IsLeft past who call s.0
Says setup past who call (answers.Tell v) = IsUnmaking call
Says setup past who call (answers.Last v) = IsUnmaking call
Says setup past who call (answers.Advanced time) = ⊥
Says setup past who call (answers.Busy t) = ⊥
Says setup past who call (answers.Update kind l t r b) = Unit {0}
Says setup past who call (answers.Painting erase l t r b) = Unit {0}
Says setup past who call (answers.Snap k) = IsSnap past call k
Says setup past who call (answers.Enter s proc_no w message wparam lparam) = IsEntry past who call s.0 proc_no w.0 message wparam lparam
Says setup past who call (answers.Callback s proc_no w message extra result) = IsResult past who call s.0 proc_no w.0 message extra result ⊎ IsInsideResult past who call s.0 proc_no w.0 message extra result
Says setup past who call (answers.Done result cause) = IsDone past who call result cause
Says setup past who call (answers.Got origins.Posted n m) = IsTaken past who call n m
Says setup past who call (answers.Got origins.Quit n m) = IsQuit past who call n m
Says setup past who call (answers.Got origins.Input n m) = IsInput setup past who call n m
Says setup past who call (answers.Got origins.Paint n m) = IsPaint setup past who call n m
Says setup past who call (answers.Got origins.Timer n m) = IsTimer setup past who call n m
Says setup past who call (answers.Refused code) = IsProper call code

-- the same as a fact of its own
pub record Said (setup : Setup) (past : Past) (who : ℕ) (call : Call) (a : Answer) : Type 0 where
  pub says : Says setup past who call a
