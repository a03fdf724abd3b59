-- Idle threads, the soonest time, the answers of the clock, and the answer of any call.
use Rattle.std.specs.Prelude.{if◌then◌else◌, ℕ, ◌==◌, ◌+◌, nat_lt, min, Bool, true, false, not, ◌||◌, List, [], ◌∷◌, map, Option, Some, None, is_none}
use Rattle.win_num.specs.declared.code.Code.TheVariants.{NotNow, Full}
use Rattle.user_model.specs.declared.entry.Setup.{Setup}
use Rattle.user_model.specs.declared.entry.Entry.{Entry}
use Rattle.user_model.specs.declared.entry.Answer.{Answer}
use Rattle.user_model.specs.declared.entry.Answer.TheVariants.{Wait, Value, Stuck, Busy, Advanced, Refused}
use Rattle.user_model.specs.declared.call.Call.{Call}
use Rattle.user_model.specs.declared.call.Call.TheVariants.{Tick, Advance}
use Rattle.user_model.specs.Past.{Past, is_full, first}
use Rattle.user_model.specs.Deeds.{Deed, sleeping, awaiting, retrieving, deed}
use Rattle.user_model.specs.Places.{clock, has_ended, mine}
use Rattle.user_model.specs.Timers.{due_time, passing_timers}
use Rattle.user_model.specs.Threads.{lowest, from_each}
use Rattle.user_model.specs.Replies.{thread_reply}
use Rattle.user_model.specs.ReplySends.{deadline}
use Rattle.user_model.specs.Refusals.{refuse, invalid_parameter}

-- whether the answer is to wait
abbrev pub is_wait : Answer → Bool
is_wait Wait = true
is_wait _ = false

-- whether the entry waited and its call would wait now
abbrev pub still_waits : Setup → Past → ℕ → Option Entry → Bool
still_waits setup past t None = false
still_waits setup past t (Some e) = if is_wait e.answer then is_wait (refuse (is_full past) Full (thread_reply setup past t e.call)) else false

-- the thread's last entry
abbrev pub last_entry : Past → ℕ → Option Entry
last_entry past t = first (mine past t)

-- a thread is idle where it has ended, or its last entry waited and the same call would wait now
abbrev pub is_idle : Setup → Past → ℕ → Bool
is_idle setup past t = if has_ended past t then true else still_waits setup past t (last_entry past t)

-- the lowest thread that isn't idle
abbrev pub first_busy : Setup → Past → Option ℕ
first_busy setup past = lowest (λ t. not (is_idle setup past t)) setup.threads

-- whether all threads are idle
abbrev pub is_quiet : Setup → Past → Bool
is_quiet setup past = is_none (first_busy setup past)

-- whether all threads have ended
abbrev pub have_all_ended : Setup → Past → Bool
have_all_ended setup past = is_none (lowest (λ t. not (has_ended past t)) setup.threads)

-- a number, if there is one
abbrev pub one_of : Option ℕ → List ℕ
one_of None = []
one_of (Some n) = n ∷ []

-- the times that t waits for: a sleep's, a timeout send's, or those at which timers are due that a retrieval lets pass
abbrev pub times_as : Past → ℕ → Deed → List ℕ
times_as past t (sleeping time) = time ∷ []
times_as past t (awaiting s) = one_of (deadline past s)
times_as past t (retrieving pass removes) = map (due_time past) (passing_timers past t pass)
times_as past t _ = []

-- the times that a call of t waits for
abbrev pub times_of_call : Past → ℕ → Call → List ℕ
times_of_call past t call = times_as past t (deed call)

-- the times that t's last entry waits for; one that was answered otherwise waits for none
abbrev pub times_of : Past → ℕ → Option Entry → List ℕ
times_of past t None = []
times_of past t (Some e) = if is_wait e.answer then times_of_call past t e.call else []

-- the times that threads wait for
abbrev pub wake_times : Setup → Past → List ℕ
wake_times setup past = from_each (λ t. times_of past t (last_entry past t)) setup.threads

-- the lesser of a number and one that there may be
abbrev pub least_with : ℕ → Option ℕ → ℕ
least_with n None = n
least_with n (Some m) = min n m

-- the least of the numbers, if there are any
abbrev pub least_of : List ℕ → Option ℕ
least_of [] = None
least_of (n ∷ ns) = Some (least_with n (least_of ns))

-- the soonest of the times that threads wait for
abbrev pub soonest : Setup → Past → Option ℕ
soonest setup past = least_of (wake_times setup past)

-- the clock goes to the time; without one all is stuck
abbrev pub advanced : Option ℕ → Answer
advanced (Some time) = Advanced time
advanced None = Stuck

-- the thread that is busy; else the clock goes on
abbrev pub busy_or : Option ℕ → Answer → Answer
busy_or (Some t) a = Busy (record { 0 = t })
busy_or None a = a

-- the lowest thread that isn't idle; else the soonest time; else stuck
abbrev pub advance_reply : Setup → Past → Answer
advance_reply setup past = busy_or (first_busy setup past) (advanced (soonest setup past))

-- the clock is moved on
abbrev pub tick_reply : Past → ℕ → Answer
tick_reply past ms = refuse (nat_lt 4294967295 ms) invalid_parameter (Value (clock past + ms))

-- the answer of a call of the clock
abbrev pub clock_row : Setup → Past → Call → Answer
clock_row setup past (Tick ms) = tick_reply past ms
clock_row setup past Advance = advance_reply setup past
clock_row setup past _ = Refused NotNow

-- the answer of any call of any actor to a history that has room
abbrev pub reply_with_room : Setup → Past → ℕ → Call → Answer
reply_with_room setup past who call = if who == 0 then clock_row setup past call else thread_reply setup past who call

-- the answer of any call of any actor: at a full history that it is full
unfoldable pub reply : Setup → Past → ℕ → Call → Answer
reply setup past who call = refuse (is_full past) Full (reply_with_room setup past who call)

-- whether the answer is that all is stuck
abbrev pub is_stuck : Answer → Bool
is_stuck Stuck = true
is_stuck _ = false

-- whether an entry is the clock's, and says that all is stuck
abbrev pub is_stuck_entry : Option Entry → Bool
is_stuck_entry None = false
is_stuck_entry (Some e) = if is_stuck e.answer then e.who.0 == 0 else false

-- whether the last entry says that all is stuck
abbrev pub ends_stuck : Past → Bool
ends_stuck past = is_stuck_entry (first past)

-- who has no call to make now: an idle thread; the clock where not all is quiet, all have ended or it is stuck
unfoldable pub is_barred : Setup → Past → ℕ → Bool
is_barred setup past who = if who == 0 then not (is_quiet setup past) || have_all_ended setup past || ends_stuck past else is_idle setup past who
