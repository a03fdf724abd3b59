-- What is kept of one thread, and what the past says of it.
use Rattle.std.specs.Prelude.{ℕ, Bool, false, if◌then◌else◌, List, [], length, map, Option, Some, None, option_map}
use Rattle.win_num.specs.declared.message.Msg.{Msg}
use Rattle.post_queue.specs.Queue.{Posted, Queue, queue, post_of}
use Rattle.user_model.specs.declared.call.Call.{Call}
use Rattle.user_model.specs.declared.entry.Entry.{Entry}
use Rattle.user_model.specs.Past.{Past}
use Rattle.user_model.specs.Places.{has_ended}
use Rattle.user_model.specs.Posts.{PostedMsg, PostedQuit, posted, posts, quit}
use Rattle.user_model.specs.Status.{last_look, quit_came}
use Rattle.user_model.specs.Idle.{is_wait, last_entry}

-- a posted message as a queue holds it
abbrev pub as_kept : PostedMsg → Posted
as_kept x = post_of x.number x.msg

-- a posted message as it is told: its number and the message
abbrev pub told_post : PostedMsg → ℕ × Msg
told_post x = (x.number, x.msg)

-- a queue of at most 10,000 messages
abbrev pub queue_with : List PostedMsg → Queue
queue_with xs = queue 10000 (map as_kept xs)

-- the queue of a thread
abbrev pub queue_at : Past → ℕ → Queue
queue_at past t = queue_with (posted past t)

-- its messages, the code of its quit and whether that came since its last look, how many posts there were at the look, whether it
-- has ended, and the call that it waits with
pub record ThreadView : Type 0 where
  pub queue : Queue
  pub quit : Option ℕ
  pub quit_is_new : Bool
  pub seen : ℕ
  pub ended : Bool
  pub waiting : Option Call

-- the call of an entry that waited
abbrev pub waiting_with : Entry → Option Call
waiting_with e = if is_wait e.answer then Some e.call else None

-- the same of an entry that may be none
abbrev pub waiting_call : Option Entry → Option Call
waiting_call None = None
waiting_call (Some e) = waiting_with e

-- the code of a quit
abbrev pub code_of : PostedQuit → ℕ
code_of q = q.code

-- what the past says of a thread
abbrev pub thread_at : Past → ℕ → ThreadView
thread_at past t = record { queue = queue_at past t; quit = option_map code_of (quit past t); quit_is_new = quit_came (last_look past t) (quit past t); seen = length (posts (last_look past t)); ended = has_ended past t; waiting = waiting_call (last_entry past t) }

-- a thread before the first entry
abbrev pub fresh_thread : ThreadView
fresh_thread = record { queue = queue 10000 []; quit = None; quit_is_new = false; seen = 0; ended = false; waiting = None }
