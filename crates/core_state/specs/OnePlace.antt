-- Calls whose entry needs its own place and no other memory, and what such an entry changes at threads.
use Rattle.std.specs.Prelude.{ℕ, Bool, true, false, ◌||◌, List, Some}
use Rattle.user_model.specs.declared.call.Call.{Call}
use Rattle.user_model.specs.declared.call.Call.TheVariants.{AwaitTitle, Clock, Find, GetActive, GetCapture, GetFocus, InSend, IsWindow, KeyState, NextTop, Parent, PostQuit, SleepUntil, Tick, WindowAt, Yield}
use Rattle.user_model.specs.declared.entry.Answer.{Answer}
use Rattle.user_model.specs.declared.entry.Answer.TheVariants.{Okay}
use Rattle.user_model.specs.Past.{is_refusal}
use Rattle.thread_queues.specs.Changes.{Change, none, quits}
use Rattle.thread_queues.specs.Queues.{IsOne}
use Rattle.thread_state.specs.Threads.{ThreadView}

-- whether the call takes no memory but the place of its entry in the history
abbrev pub takes_one_place : Call → Bool
takes_one_place Yield = true
takes_one_place Clock = true
takes_one_place InSend = true
takes_one_place (KeyState key) = true
takes_one_place GetFocus = true
takes_one_place GetActive = true
takes_one_place GetCapture = true
takes_one_place (IsWindow w) = true
takes_one_place (Parent w) = true
takes_one_place (NextTop w) = true
takes_one_place (Find title) = true
takes_one_place (WindowAt x y) = true
takes_one_place (Tick ms) = true
takes_one_place (SleepUntil time) = true
takes_one_place (AwaitTitle title) = true
takes_one_place (PostQuit code) = true
takes_one_place _ = false

-- whether the entry is refused, or one of such a call
abbrev pub is_quiet : Answer → Call → Bool
is_quiet a call = is_refusal a || takes_one_place call

-- quit, where it is posted
abbrev pub quitting : ℕ → Answer → Call → Change
quitting who Okay (PostQuit code) = quits who (Some code)
quitting who _ _ = none

-- its thread is one of those that are kept
abbrev pub FitsQuitting : List ThreadView → ℕ → Answer → Call → Type 0
FitsQuitting threads who Okay (PostQuit code) = IsOne threads who
FitsQuitting threads who _ _ = Unit {0}
