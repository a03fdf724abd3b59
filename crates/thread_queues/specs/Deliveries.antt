-- Which messages a filter lets pass, and what a call posts, among the windows of a table.
use Rattle.std.specs.Prelude.{if◌then◌else◌, ℕ, ◌≤◌, ◌==◌, ◌&&◌, ◌||◌, Bool, List, map, filter, Option, Some, None, IsTrue}
use Rattle.win_num.specs.declared.message.Msg.{Msg}
use Rattle.win_num.specs.declared.shapes.Point.{Point}
use Rattle.win_rows.specs.declared.window.Window.{Window}
use Rattle.win_rows.specs.Windows.{is_live}
use Rattle.win_tree.specs.Kin.{is_kin}
use Rattle.user_model.specs.declared.call.Call.{Call}
use Rattle.user_model.specs.declared.call.Call.TheVariants.{PostQuit, Drop}
use Rattle.user_model.specs.declared.entry.Answer.{Answer}
use Rattle.user_model.specs.declared.entry.Answer.TheVariants.{Okay, Ended, Posted as PostMade, Got}
use Rattle.user_model.specs.declared.entry.Origin.{Origin}
use Rattle.user_model.specs.declared.entry.Origin.TheVariants.{Posted as FromPosted, Quit as FromQuit, Input as FromInput, Paint as FromPaint, Timer as FromTimer}
use Rattle.user_model.specs.Posts.{message}
use Rattle.user_model.specs.Deeds.{Posting, to_window, to_thread, posting_of}
use Rattle.window_state.specs.Trees.{thread_in}
use Rattle.thread_queues.specs.Changes.{Change, posts, takes, quits, purges, ends, none, taken_if}

-- the thread that is posted to, and the message, which carries the time and the cursor
abbrev pub posting_in : List Window → ℕ → Point → ℕ → Option Posting → Option (ℕ × Msg)
posting_in ws time point who (Some (to_window w number wparam lparam)) = Some ((if w == 0 then who else thread_in ws w), message w number wparam lparam time point)
posting_in ws time point who (Some (to_thread to number wparam lparam)) = Some (to, message 0 number wparam lparam time point)
posting_in ws time point who None = None

-- the same of a call; shift is whether the caller's Shift is down
abbrev pub posting : List Window → ℕ → Point → Bool → ℕ → Call → Option (ℕ × Msg)
posting ws time point shift who call = posting_in ws time point who (posting_of shift call)

-- a posted number is a message's, and a window that is posted to is live
abbrev pub FitsPostIn : List Window → Option Posting → Type 0
FitsPostIn ws (Some (to_window w number wparam lparam)) = IsTrue ((w == 0) || is_live ws w) × (number ≤ 65535)
FitsPostIn ws (Some (to_thread to number wparam lparam)) = number ≤ 65535
FitsPostIn ws None = Unit {0}

-- the same of a call
abbrev pub FitsPost : List Window → Bool → Call → Type 0
FitsPost ws shift call = FitsPostIn ws (posting_of shift call)

-- the numbers of the windows that go with v
abbrev pub kin_in : List Window → ℕ → List ℕ
kin_in ws v = map (λ x. x.number.0) (filter (λ x. is_kin ws v x.number.0) ws)

-- whether w is live, and goes with v
abbrev pub goes_with : List Window → ℕ → ℕ → Bool
goes_with ws v w = is_live ws w && is_kin ws v w

-- the change of a post
abbrev pub change_of_post : ℕ → Option (ℕ × Msg) → Change
change_of_post k None = none
change_of_post k (Some p) = posts p.0 k p.1

-- the change of an answer that takes memory
abbrev pub adding_in : List Window → ℕ → Point → Bool → ℕ → Answer → Call → Change
adding_in ws time point shift who (PostMade k) call = change_of_post k (posting ws time point shift who call)
adding_in ws time point shift who _ call = none

-- the change of a call that was answered by ok
abbrev pub carried_in : List Window → ℕ → Call → Change
carried_in ws who (PostQuit code) = quits who (Some code)
carried_in ws who (Drop v) = purges who (kin_in ws v)
carried_in ws who _ = none

-- the change of a retrieval that removes: what is neither a post nor quit isn't kept here
abbrev pub removal : ℕ → Origin → ℕ → Change
removal who FromPosted n = takes who n
removal who FromQuit n = quits who None
removal who FromInput n = none
removal who FromPaint n = none
removal who FromTimer n = none

-- the change of an answer that takes no memory
abbrev pub effect_in : List Window → ℕ → Answer → Call → Change
effect_in ws who Okay call = carried_in ws who call
effect_in ws who (Got o n m) call = taken_if call (removal who o n)
effect_in ws who Ended call = ends who
effect_in ws who _ call = none
