-- What one entry changes at the threads.
use Rattle.std.specs.Prelude.{ℕ, false, true, ◌==◌, ◌&&◌, if◌then◌else◌, List, [], ◌∷◌, ◌++◌, length, map, filter, Option, Some, None, is_some}
use Rattle.win_num.specs.declared.message.Msg.{Msg}
use Rattle.post_queue.specs.Queue.{Posted, Queue, queue, post_of, without_number, without_window}
use Rattle.user_model.specs.declared.call.Call.{Call}
use Rattle.user_model.specs.declared.call.Call.TheVariants.{PostQuit, Drop}
use Rattle.user_model.specs.declared.entry.Answer.{Answer}
use Rattle.user_model.specs.declared.entry.Answer.TheVariants.{Okay, Ended, Posted as PostMade, Got, Advanced, Value}
use Rattle.user_model.specs.declared.entry.Origin.TheVariants.{Posted as FromPosted, Quit as FromQuit}
use Rattle.user_model.specs.declared.entry.Entry.{Entry}
use Rattle.user_model.specs.Past.{Past, is_refused}
use Rattle.user_model.specs.Places.{clock, cursor}
use Rattle.user_model.specs.Windows.{live, is_kin}
use Rattle.user_model.specs.Retrievals.{removes}
use Rattle.user_model.specs.Posts.{message, posts as all_posts, queue_of}
use Rattle.user_model.specs.Status.{is_look}
use Rattle.user_model.specs.Deeds.{Posting, to_window, to_thread, posting_of}
use Rattle.user_model.specs.Keys.{is_shift_down}
use Rattle.thread_state.specs.Threads.{ThreadView, waiting_with}

-- a change at one thread: a post under its number, a post taken out, quit with a code or taken back, the messages of
-- windows taken out, the end of the thread; or none
pub data Change : Type 0 where
  posts : ℕ → ℕ → Msg → Change
  takes : ℕ → ℕ → Change
  quits : ℕ → Option ℕ → Change
  purges : ℕ → List ℕ → Change
  ends : ℕ → Change
  none : Change

-- the numbers of the windows that go with v
abbrev pub kin_of : Past → ℕ → List ℕ
kin_of past v = map (λ x. x.number) (filter (λ x. is_kin (live past) v x.number) (live past))

-- the change of a retrieved message, where the call removes it
abbrev pub taken_if : Call → Change → Change
taken_if call change = if removes call then change else none

-- the change of a post
abbrev pub change_by_post : Past → ℕ → ℕ → Option Posting → Change
change_by_post past who k (Some (to_window w number wparam lparam)) = posts (queue_of past who w) k (message w number wparam lparam (clock past) (cursor past))
change_by_post past who k (Some (to_thread to number wparam lparam)) = posts to k (message 0 number wparam lparam (clock past) (cursor past))
change_by_post past who k None = none

-- what an answer to a call of who changes
abbrev pub change_by : Past → ℕ → Answer → Call → Change
change_by past who (PostMade k) call = change_by_post past who k (posting_of (is_shift_down past who) call)
change_by past who (Got FromPosted n m) call = taken_if call (takes who n)
change_by past who (Got FromQuit n m) call = taken_if call (quits who None)
change_by past who Okay (PostQuit code) = quits who (Some code)
change_by past who Okay (Drop v) = purges who (kin_of past v)
change_by past who Ended call = ends who
change_by past who _ _ = none

-- what an entry changes
abbrev pub change_of : Past → Entry → Change
change_of past e = change_by past e.who.0 e.answer e.call

-- without the messages of the windows, one window after another
abbrev pub without_windows : List Posted → List ℕ → List Posted
without_windows ps [] = ps
without_windows ps (w ∷ ws) = without_windows (without_window ps w) ws

-- a queue with a message more
abbrev pub queue_more : Queue → ℕ → Msg → Queue
queue_more q k m = queue q.limit (q.posted ++ post_of k m ∷ [])

-- thread t after a change
abbrev pub changed : ℕ → Change → ThreadView → ThreadView
changed t (posts to k m) old = if to == t then record old { queue = queue_more old.queue k m } else old
changed t (takes who n) old = if who == t then record old { queue = queue old.queue.limit (without_number old.queue.posted n) } else old
changed t (quits who code) old = if who == t then record old { quit = code; quit_is_new = is_some code } else old
changed t (purges who ws) old = if who == t then record old { queue = queue old.queue.limit (without_windows old.queue.posted ws) } else old
changed t (ends who) old = if who == t then record old { queue = queue old.queue.limit []; ended = true } else old
changed t none old = old

-- thread t after an entry of a call that it may wait with
abbrev pub noted : ℕ → Entry → ThreadView → ThreadView
noted t e old = if e.who.0 == t then record old { waiting = waiting_with e } else old

-- thread t after an entry with which there were so many posts: where it looks, what is there came before
abbrev pub marked : ℕ → Entry → ℕ → ThreadView → ThreadView
marked t e count old = if is_refused e then old else if is_look e.call && (e.who.0 == t) then record old { quit_is_new = false; seen = count } else old

-- thread t after an entry
abbrev pub thread_after : Past → Entry → ℕ → ThreadView → ThreadView
thread_after past e t old = marked t e (length (all_posts (e ∷ past))) (noted t e (changed t (change_of past e) old))

-- how many posts there were, after an answer
abbrev pub count_kept : Answer → ℕ → ℕ
count_kept (PostMade k) old = k
count_kept _ old = old

-- the clock after an answer to who
abbrev pub time_told_to : ℕ → Answer → ℕ → ℕ
time_told_to who (Advanced time) old = if who == 0 then time else old
time_told_to who (Value time) old = if who == 0 then time else old
time_told_to who _ old = old

-- the clock after an entry
abbrev pub time_kept : Entry → ℕ → ℕ
time_kept e old = time_told_to e.who.0 e.answer old
