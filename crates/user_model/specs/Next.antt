-- The next message of a thread.
use Rattle.std.specs.Prelude.{if◌then◌else◌, ℕ, Bool, true, false, List, [], ◌∷◌, Option, Some, None, option_map}
use Rattle.win_num.specs.declared.message.Filter.{Filter}
use Rattle.win_num.specs.declared.message.Hwnd.{Hwnd}
use Rattle.win_num.specs.declared.names.TheConstants.{WM_PAINT, WM_QUIT, WM_TIMER}
use Rattle.user_model.specs.declared.entry.Setup.{Setup}
use Rattle.user_model.specs.declared.entry.Answer.{Answer}
use Rattle.user_model.specs.declared.entry.Answer.TheVariants.{Enter, Callback, Got}
use Rattle.user_model.specs.declared.entry.Origin.TheVariants.{Posted, Quit, Input, Paint, Timer}
use Rattle.user_model.specs.Past.{Past, or_else}
use Rattle.user_model.specs.Places.{clock, cursor}
use Rattle.user_model.specs.Classes.{proc_of}
use Rattle.user_model.specs.Stacks.{has_room}
use Rattle.user_model.specs.Sends.{Outcome, answer}
use Rattle.user_model.specs.Ready.{ReadyMsg, to_enter, to_call_back, ready_head}
use Rattle.user_model.specs.Painting.{to_paint}
use Rattle.user_model.specs.Timers.{WinTimer, due}
use Rattle.user_model.specs.Posts.{PostedMsg, PostedQuit, message, posted, first_post, quit}
use Rattle.user_model.specs.Inputs.{Element}
use Rattle.user_model.specs.Targets.{target, message_for, to_take}

-- the result of a send, or 0
abbrev pub result_of : Option Outcome → ℕ
result_of (Some o) = o.result
result_of None = 0

-- what the caller runs: the procedure of the window for a send, the callback with the result of its send
abbrev pub run_for : Past → ReadyMsg → Answer
run_for past (to_enter x) = Enter (record { 0 = x.number }) (proc_of past x.hwnd) (record { 0 = x.hwnd }) x.message x.wparam x.lparam
run_for past (to_call_back x proc_no extra place) = Callback (record { 0 = x.number }) proc_no (record { 0 = x.hwnd }) x.message extra (result_of (answer past x.number))

-- what is ready, where the stack has room
abbrev pub next_ready : Past → ℕ → Option Answer
next_ready past t = if has_room past t then option_map (run_for past) (ready_head past t) else None

-- a posted message as a retrieval hands it out
abbrev pub got_posted : PostedMsg → Answer
got_posted x = Got Posted x.number x.msg

-- the first posted message that passes
abbrev pub next_posted : Past → ℕ → Filter → Option Answer
next_posted past t f = option_map got_posted (first_post past t f)

-- quit as a retrieval hands it out, with the clock and the cursor of the retrieval
abbrev pub got_quit : Past → PostedQuit → Answer
got_quit past q = Got Quit 0 (message 0 WM_QUIT q.code 0 (clock past) (cursor past))

-- whether a list has nothing
abbrev pub is_empty : {A : Type 0} → List A → Bool
is_empty [] = true
is_empty (x ∷ xs) = false

-- quit comes where no posted message at all is left
abbrev pub next_quit : Past → ℕ → Option Answer
next_quit past t = if is_empty (posted past t) then option_map (got_quit past) (quit past t) else None

-- an input as a retrieval hands it out, for the window that it goes to then
abbrev pub got_input : Setup → Past → Element → Answer
got_input setup past x = Got Input x.number (message_for past x (target setup past x))

-- the first input that the thread may take and that passes
abbrev pub next_input : Setup → Past → ℕ → Filter → Option Answer
next_input setup past t f = option_map (got_input setup past) (to_take setup past t f)

-- WM_PAINT of a window, with the clock and the cursor of the retrieval
abbrev pub got_paint : Past → Hwnd → Answer
got_paint past w = Got Paint 0 (message w.0 WM_PAINT 0 0 (clock past) (cursor past))

-- WM_PAINT for the first window that has a dirty pixel and passes
abbrev pub next_paint : Setup → Past → ℕ → Filter → Option Answer
next_paint setup past t f = option_map (got_paint past) (to_paint setup past t f)

-- WM_TIMER of a timer, with the clock and the cursor of the retrieval
abbrev pub got_timer : Past → WinTimer → Answer
got_timer past x = Got Timer 0 (message x.hwnd WM_TIMER x.id 0 (clock past) (cursor past))

-- WM_TIMER for the first due timer that passes
abbrev pub next_timer : Past → ℕ → Filter → Option Answer
next_timer past t f = option_map (got_timer past) (due past t f)

-- ready sends and results, then the first posted message that passes, then quit, then input, then painting, then timers
abbrev pub next : Setup → Past → ℕ → Filter → Option Answer
next setup past t f = or_else (next_ready past t) (or_else (next_posted past t f) (or_else (next_quit past t) (or_else (next_input setup past t f) (or_else (next_paint setup past t f) (next_timer past t f)))))
