-- Times: where all is quiet, the soonest time is to come; the clock never goes back.
use Rattle.std.proofs.Common.{◌≡◌, ℕ, zero, suc, ◌+◌, ◌<◌, ◌≤◌, Bool, true, false, not, cond, eqb, List, [], ◌∷◌, Option, Some, None, refl, ap, ◌∙◌, sym, subst, arith}
use Rattle.std.specs.Prelude.{◌&&◌, filter, is_none, map, nat_lt, nat_le, option_map, unwrap_or}
use Rattle.std.specs.List.{AllByRecursion}
use Rattle.std.proofs.lemmas.Bool.{false≢true, eqb-true}
use Rattle.std.proofs.lemmas.Bool.Decides.{nat_tests}
use Rattle.win_num.specs.declared.send.Cause.TheVariants.{Timeout as ByTimeout}
use Rattle.win_num.specs.declared.code.Code.{Code}
use Rattle.win_num.specs.declared.code.Code.TheVariants.{NotNow, Full}
use Rattle.user_model.specs.declared.call.Call.{Call}
use Rattle.user_model.specs.declared.call.Call.TheVariants.{Get, Peek, Await, SleepUntil, Tick, Advance}
use Rattle.user_model.specs.declared.entry.Entry.{Entry}
use Rattle.user_model.specs.declared.entry.Answer.{Answer}
use Rattle.user_model.specs.declared.entry.Answer.TheVariants as answers
use Rattle.user_model.specs.declared.entry.Setup.{Setup}
use Rattle.user_model.specs.Past.{Past, is_refused, is_full, or_else}
use Rattle.user_model.specs.Places.{clock, if_clock, time_told, has_ended, is_end}
use Rattle.user_model.specs.Threads.{lowest, from_each, is_running}
use Rattle.user_model.specs.Sends.{Outcome, answer}
use Rattle.user_model.specs.Stacks.{top}
use Rattle.win_num.specs.declared.message.Filter.{Filter}
use Rattle.user_model.specs.Filters.{filter_of}
use Rattle.user_model.specs.Timers.{WinTimer, due, due_time, is_due, passing_timers, soonest_timer}
use Rattle.user_model.specs.Next.{got_timer, next, next_ready, next_posted, next_quit, next_input, next_paint, next_timer}
use Rattle.user_model.specs.Refusals.{refuse, invalid_parameter}
use Rattle.user_model.specs.ReplySends.{deadline, has_come, served}
use Rattle.user_model.specs.ReplyClock.{woken}
use Rattle.user_model.specs.Replies.{row, is_barred_by, thread_reply, stack_reply}
use Rattle.user_model.specs.Idle.{is_wait, still_waits, last_entry, is_idle, first_busy, is_quiet, one_of, times_of_call, times_of, wake_times, least_with, least_of, soonest, advanced, busy_or, clock_row, reply}
use Rattle.user_model.specs.Legal.{IsLawful}
use Rattle.user_model.proofs.ListLaws.{all_append}
use Rattle.user_model.proofs.ClockLaws.{clock-next, last_entry-next}
use Rattle.user_model.proofs.ReplyLaws.{by_row, running_lives}
use Rattle.user_model.proofs.DeliveryReplies.{wait_told}
use Rattle.user_model.proofs.ThreadLaws.{has_ended-same}

above : (m k : ℕ) → nat_le m k ≡ false → k < m
above m k h = grind (arith, nat_tests, h)

-- ---- the least of times

least_two : (c n : ℕ) (o : Option ℕ) → c < n → ((m : ℕ) → o ≡ Some m → c < m) → c < least_with n o
least_two c n None h k = h
least_two c n (Some m) h k = let more = k m refl in omega (arith, h, more)

least_above : (c : ℕ) (ns : List ℕ) (t : ℕ) → AllByRecursion (λ n. c < n) ns → least_of ns ≡ Some t → c < t
least_above c [] t h e = absurd cc
least_above c (n ∷ ns) t h e =
    let same : least_with n (least_of ns) ≡ t = cc in
    subst (λ m. c < m) same (least_two c n (least_of ns) h.0 (λ m k. least_above c ns m h.1 k))

each_above : (c : ℕ) (gives : ℕ → List ℕ) (n : ℕ) → ((t : ℕ) → 0 < t → t ≤ n → AllByRecursion (λ m. c < m) (gives t)) → AllByRecursion (λ m. c < m) (from_each gives n)
each_above c gives zero h = tt
each_above c gives (suc n) h = all_append (λ m. c < m) (from_each gives n) (gives (suc n)) (each_above c gives n (λ t low high. h t low (omega (arith, high)))) (h (suc n) (omega arith) (omega arith))

or_none : (o p : Option ℕ) → is_none (or_else o p) ≡ true → (is_none o ≡ true) × (is_none p ≡ true)
or_none None p h = (refl, h)
or_none (Some m) p h = absurd (false≢true h)

none_if : (b : Bool) (m : ℕ) → is_none (cond b (Some m) None) ≡ true → b ≡ false
none_if true m h = absurd (false≢true h)
none_if false m h = refl

none_passes : (test : ℕ → Bool) (n t : ℕ) → is_none (lowest test n) ≡ true → 0 < t → t ≤ n → test t ≡ false
none_passes test zero t h low high = absurd (omega arith)
none_passes test (suc n) t h low high = by (eqb t (suc n)) refl (or_none (lowest test n) (cond (test (suc n)) (Some (suc n)) None) h) (λ less k. none_passes test n t k low less)
  where
    by : (b : Bool) → eqb t (suc n) ≡ b → (is_none (lowest test n) ≡ true) × (is_none (cond (test (suc n)) (Some (suc n)) None) ≡ true) → (t ≤ n → is_none (lowest test n) ≡ true → test t ≡ false) → test t ≡ false
    by true is k rest = subst (λ m. test m ≡ false) (sym (eqb-true t (suc n) is)) (none_if (test (suc n)) (suc n) k.1)
    by false is k rest = rest (less is) k.0
      where
        same : (a b : ℕ) → a ≡ b → eqb a b ≡ true
        same a b h = grind (arith, h)

        less : eqb t (suc n) ≡ false → t ≤ n
        less is = let other : t ≡ suc n → ⊥ = λ e. false≢true (sym is ∙ same t (suc n) e) in omega (arith, other)

not_false : (b : Bool) → not b ≡ false → b ≡ true
not_false true h = refl
not_false false h = absurd (false≢true (sym h))

-- ---- a call that waits

waits_behind : (b : Bool) (code : Code) (a : Answer) → is_wait (refuse b code a) ≡ true → is_wait a ≡ true
waits_behind true code a h = absurd (false≢true h)
waits_behind false code a h = h

wait_is : (a : Answer) → is_wait a ≡ true → a ≡ answers.Wait
wait_is answers.Wait h = refl
wait_is _ h = absurd (false≢true h)

woken_late : (b : Bool) → is_wait (woken b) ≡ true → b ≡ false
woken_late true h = absurd (false≢true h)
woken_late false h = refl

come_wait : (b : Bool) (x : Answer) → is_wait (cond b (answers.Done 0 ByTimeout) x) ≡ true → b ≡ false
come_wait true x h = absurd (false≢true h)
come_wait false x h = refl

await_wait : (past : Past) (who s : ℕ) (o : Option Outcome) → is_wait (elim o as (λ _. Answer) [ Some o ↦ answers.Done o.result o.cause | None ↦ cond (has_come (deadline past s) (clock past)) (answers.Done 0 ByTimeout) (served past who s) ]) ≡ true → has_come (deadline past s) (clock past) ≡ false
await_wait past who s (Some o) h = absurd (false≢true h)
await_wait past who s None h = come_wait (has_come (deadline past s) (clock past)) (served past who s) h

due_later : (c : ℕ) (o : Option ℕ) → has_come o c ≡ false → AllByRecursion (λ m. c < m) (one_of o)
due_later c None h = tt
due_later c (Some m) h = (above m c h, tt)

-- where no passing timer is due, each is due later
timers_later : (past : Past) (xs : List WinTimer) → soonest_timer past (filter (is_due past) xs) ≡ None → AllByRecursion (λ m. clock past < m) (map (due_time past) xs)
timers_later past [] h = tt
timers_later past (x ∷ xs) h = by (is_due past x) refl h (λ k. timers_later past xs k)
  where
    by : (b : Bool) → is_due past x ≡ b → soonest_timer past (cond b (x ∷ filter (is_due past) xs) (filter (is_due past) xs)) ≡ None → (soonest_timer past (filter (is_due past) xs) ≡ None → AllByRecursion (λ m. clock past < m) (map (due_time past) xs)) → AllByRecursion (λ m. clock past < m) (map (due_time past) (x ∷ xs))
    by true is k rest = absurd cc
    by false is k rest = (above (due_time past x) (clock past) is, rest k)

none_mapped : {A B : Type 0} (f : A → B) (o : Option A) → option_map f o ≡ None → o ≡ None
none_mapped f None h = refl
none_mapped f (Some a) h = absurd cc

second_none : {A : Type 0} (o p : Option A) → or_else o p ≡ None → p ≡ None
second_none None p h = h
second_none (Some a) p h = absurd cc

-- where nothing comes for a filter, no timer that passes it is due
none_due : (setup : Setup) (past : Past) (t : ℕ) (f : Filter) → next setup past t f ≡ None → AllByRecursion (λ m. clock past < m) (map (due_time past) (passing_timers past t f))
none_due setup past t f h =
    timers_later past (passing_timers past t f) (none_mapped (got_timer past) (due past t f)
    (second_none (next_paint setup past t f) (next_timer past t f)
    (second_none (next_input setup past t f) _
    (second_none (next_quit past t) _
    (second_none (next_posted past t f) _
    (second_none (next_ready past t) _ h))))))

-- the times of a call that waits are to come
call_times : (setup : Setup) (past : Past) (t : ℕ) (call : Call) → is_wait (row setup past t call) ≡ true → AllByRecursion (λ m. clock past < m) (times_of_call past t call)
call_times setup past t (SleepUntil time) h = (above time (clock past) (woken_late (nat_le time (clock past)) (waits_behind (nat_lt (clock past + 4294967295) time) invalid_parameter (woken (nat_le time (clock past))) h)), tt)
call_times setup past t (Await s) h = due_later (clock past) (deadline past s) (await_wait past t s (answer past s) h)
call_times setup past t (Get w min max) h = none_due setup past t (filter_of w min max) (wait_told setup past t (Get w min max) (wait_is (row setup past t (Get w min max)) h) (filter_of w min max) refl)
call_times setup past t (Peek w min max flags) h = none_due setup past t (filter_of w min max) (wait_told setup past t (Peek w min max flags) (wait_is (row setup past t (Peek w min max flags)) h) (filter_of w min max) refl)
call_times setup past t _ h = tt

still_times : (setup : Setup) (past : Past) (t : ℕ) (o : Option Entry) → still_waits setup past t o ≡ true → AllByRecursion (λ m. clock past < m) (times_of past t o)
still_times setup past t None h = tt
still_times setup past t (Some e) h = by (is_wait e.answer) h
  where
    by : (b : Bool) → cond b (is_wait (refuse (is_full past) Full (thread_reply setup past t e.call))) false ≡ true → AllByRecursion (λ m. clock past < m) (cond b (times_of_call past t e.call) [])
    by true k = call_times setup past t e.call (waits_behind (is_barred_by e.call (top past t)) NotNow (row setup past t e.call) (waits_behind (not (is_running setup past t)) NotNow (stack_reply setup past t e.call) (waits_behind (is_full past) Full (thread_reply setup past t e.call) k)))
    by false k = tt

-- ---- ended threads

abbrev last_waits : Option Entry → Bool
last_waits None = false
last_waits (Some e) = is_wait e.answer

-- the last entry of a thread that has ended didn't wait
ended_last : (setup : Setup) (past : Past) (t : ℕ) → IsLawful setup past → has_ended past t ≡ true → last_waits (last_entry past t) ≡ false
ended_last setup [] t h ended = refl
ended_last setup (e ∷ past) t h ended = ap last_waits (last_entry-next e past t) ∙ by (eqb e.who.0 t) refl (is_wait e.answer) refl (ended_last setup past t h.0)
  where
    by : (b : Bool) → eqb e.who.0 t ≡ b → (c : Bool) → is_wait e.answer ≡ c → (has_ended past t ≡ true → last_waits (last_entry past t) ≡ false) → last_waits (cond b (Some e) (last_entry past t)) ≡ false
    by true own false waits before = waits
    by true own true waits before =
        let is = wait_is e.answer waits in
        let runs = by_row setup past e.who.0 e.call answers.Wait (sym h.1 ∙ is) refl in
        let was : has_ended past t ≡ true = sym (has_ended-same e past t (ap is_end is)) ∙ ended in
        absurd (false≢true (sym (running_lives setup past e.who.0 runs.running) ∙ subst (λ m. has_ended past m ≡ true) (sym (eqb-true e.who.0 t own)) was))
    by false own c waits before = before (was (is_refused e) (has_ended past t) refl ended)
      where
        was : (refused b : Bool) → has_ended past t ≡ b → (elim refused as (λ c. Bool) [ true ↦ b | false ↦ elim b as (λ c. Bool) [ true ↦ true | false ↦ is_end e.answer && eqb e.who.0 t ] ]) ≡ true → has_ended past t ≡ true
        was refused true is k = is
        was true false is k = absurd (false≢true k)
        was false false is k = absurd (false≢true (sym (last (is_end e.answer) own) ∙ k))
          where
            last : (a : Bool) → eqb e.who.0 t ≡ false → (a && eqb e.who.0 t) ≡ false
            last true h = h
            last false h = refl

-- ---- where all is quiet

module _ (setup : Setup) (past : Past) (h : IsLawful setup past) (quiet : is_quiet setup past ≡ true) where
  thread_times : (t : ℕ) → 0 < t → t ≤ setup.threads → AllByRecursion (λ m. clock past < m) (times_of past t (last_entry past t))
  thread_times t low high = by (has_ended past t) refl (not_false (is_idle setup past t) (none_passes (λ t. not (is_idle setup past t)) setup.threads t quiet low high))
    where
      silent : (o : Option Entry) → last_waits o ≡ false → AllByRecursion (λ m. clock past < m) (times_of past t o)
      silent None k = tt
      silent (Some e) k = subst (λ b. AllByRecursion (λ m. clock past < m) (cond b (times_of_call past t e.call) [])) (sym k) tt

      by : (b : Bool) → has_ended past t ≡ b → cond b true (still_waits setup past t (last_entry past t)) ≡ true → AllByRecursion (λ m. clock past < m) (times_of past t (last_entry past t))
      by true ended k = silent (last_entry past t) (ended_last setup past t h ended)
      by false lives k = still_times setup past t (last_entry past t) k

  -- the soonest time is to come
  pub soonest_later : (time : ℕ) → soonest setup past ≡ Some time → clock past < time
  soonest_later time e = least_above (clock past) (wake_times setup past) time (each_above (clock past) (λ t. times_of past t (last_entry past t)) setup.threads thread_times) e

-- ---- the clock

-- the time that the clock is told isn't before the one that was
not_before : (setup : Setup) (past : Past) (call : Call) → IsLawful setup past → (time : ℕ) → time_told (clock_row setup past call) ≡ Some time → clock past ≤ time
not_before setup past (Tick ms) h time e = by (nat_lt 4294967295 ms) e
  where
    by : (b : Bool) → time_told (refuse b invalid_parameter (answers.Value (clock past + ms))) ≡ Some time → clock past ≤ time
    by true e = absurd cc
    by false e = let same : clock past + ms ≡ time = cc in omega (arith, same)
not_before setup past Advance h time e = by (first_busy setup past) refl (soonest setup past) refl e
  where
    by : (o : Option ℕ) → first_busy setup past ≡ o → (p : Option ℕ) → soonest setup past ≡ p → time_told (busy_or o (advanced p)) ≡ Some time → clock past ≤ time
    by (Some t) busy p soon e = absurd cc
    by None busy None soon e = absurd cc
    by None busy (Some s) soon e =
        let same : s ≡ time = cc in
        let later = soonest_later setup past h (ap is_none busy) s soon in
        omega (arith, same, later)
not_before setup past _ h time e = absurd cc

-- where actor 0 was told a time, it made the call
told_by : (full clocked : Bool) (x y a : Answer) (time : ℕ) → time_told a ≡ Some time → a ≡ refuse full Full (cond clocked x y) → clocked ≡ true → time_told x ≡ Some time
told_by true clocked x y a time h e is = let none : time_told a ≡ None = ap time_told e in absurd cc
told_by false true x y a time h e is = ap time_told (sym e) ∙ h
told_by false false x y a time h e is = absurd (false≢true is)

-- the clock of a lawful past never goes back
pub clock_rises : (setup : Setup) (past : Past) (e : Entry) → IsLawful setup (e ∷ past) → clock past ≤ clock (e ∷ past)
unfolding reply
clock_rises setup past e h = subst (λ c. clock past ≤ c) (sym (clock-next e past)) (by (is_refused e))
  where
    stays : clock past ≤ clock past
    stays = omega arith

    told : (b : Bool) → eqb e.who.0 0 ≡ b → (o : Option ℕ) → time_told e.answer ≡ o → clock past ≤ unwrap_or (elim o as (λ _. Option ℕ) [ None ↦ None | Some v ↦ cond b (Some v) None ]) (clock past)
    told b own None is = stays
    told false own (Some v) is = stays
    told true own (Some v) is = not_before setup past e.call h.0 v (told_by (is_full past) (eqb e.who.0 0) (clock_row setup past e.call) (thread_reply setup past e.who.0 e.call) e.answer v is h.1 own)

    shown : (o : Option ℕ) → time_told e.answer ≡ o → clock past ≤ unwrap_or (if_clock e.who.0 o) (clock past)
    shown None is = stays
    shown (Some v) is = told (eqb e.who.0 0) refl (Some v) is

    by : (b : Bool) → clock past ≤ unwrap_or (elim b as (λ _. Option ℕ) [ true ↦ None | false ↦ if_clock e.who.0 (time_told e.answer) ]) (clock past)
    by true = stays
    by false = shown (time_told e.answer) refl
