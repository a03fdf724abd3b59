-- The clock is no later than its entries can move it, and so is each time that is waited for.
use Rattle.std.proofs.Common.{◌≡◌, ℕ, zero, suc, ◌+◌, ◌*◌, ◌<◌, ◌≤◌, Bool, true, false, cond, eqb, List, [], ◌∷◌, length, Option, Some, None, refl, ap, subst, sym, ◌∙◌, arith}
use Rattle.std.specs.Prelude.{◌||◌, ◌&&◌, filter, find, map, max, min, nat_lt, nat_le, not, unwrap_or}
use Rattle.std.specs.List.{AllByRecursion}
use Rattle.std.proofs.lemmas.Bool.{false≢true, or_parts}
use Rattle.std.proofs.lemmas.Bool.Decides.{nat_tests}
use Rattle.win_num.specs.Clocks.{clock_limit}
use Rattle.win_num.specs.declared.code.Code.TheVariants.{Full}
use Rattle.win_num.specs.declared.send.Kind.{Kind}
use Rattle.win_num.specs.declared.send.Kind.TheVariants.{Wait as WaitKind, Timeout as WithTimeout, Notify, Callback as WithCallback}
use Rattle.user_model.specs.declared.call.Call.{Call}
use Rattle.user_model.specs.declared.call.Call.TheVariants.{Get, Peek, Send, SendTimeout, SendNotify, SendCallback, SleepUntil, Await, SetTimer, Tick, Advance}
use Rattle.user_model.specs.declared.entry.Answer.{Answer}
use Rattle.user_model.specs.declared.entry.Answer.TheVariants as answers
use Rattle.user_model.specs.declared.entry.Entry.{Entry}
use Rattle.user_model.specs.declared.entry.Setup.{Setup}
use Rattle.user_model.specs.Past.{Past, is_full, is_refused, is_refusal}
use Rattle.user_model.specs.Places.{clock, if_clock, time_told}
use Rattle.user_model.specs.Threads.{from_each}
use Rattle.user_model.specs.Sends.{SentMsg, send, sends, sends_by, sent_as}
use Rattle.win_num.specs.declared.message.Filter.{Filter}
use Rattle.user_model.specs.Filters.{filter_of}
use Rattle.user_model.specs.Windows.{drops_window, thread_of}
use Rattle.user_model.specs.Retrievals.{removed_timer}
use Rattle.user_model.specs.Timers.{WinTimer, base, due_time, ends_timer, is_message_of, passes_timer, passing_timers, restarts, sets, timers, timers_of, timers_set}
use Rattle.user_model.specs.Refusals.{refuse, invalid_parameter, is_no_message, has_beyond}
use Rattle.user_model.specs.ReplyClock.{woken}
use Rattle.user_model.specs.ReplySends.{deadline_in, waiting_send}
use Rattle.user_model.specs.Replies.{thread_reply}
use Rattle.user_model.specs.Idle.{advanced, busy_or, clock_row, first_busy, is_wait, last_entry, least_of, least_with, one_of, reply, soonest, times_of, times_of_call, wake_times}
use Rattle.user_model.specs.Legal.{IsLawful}
use Rattle.user_model.proofs.ClockLaws.{clock-next, last_entry-next}
use Rattle.user_model.proofs.ListLaws.{all_append, all_filter, all_weaker}
use Rattle.user_model.proofs.ReplyLaws.{by_row, by_call, not_refused}
use Rattle.user_model.proofs.SendLaws.{sends-next, sends-refused}
use Rattle.user_model.proofs.TimerLaws.{base-next, base-refused, timers-next, timers-refused}

-- the latest time after so many entries
abbrev latest : ℕ → ℕ
latest n = 4294967295 * n

-- a send was made at a time of the clock, and gives up no later than the next entry could move it
record IsTimed (n : ℕ) (x : SentMsg) : Type 0 where
  made : x.time ≤ latest n
  due : AllByRecursion (λ t. t ≤ latest n) (one_of (deadline_in x x.kind))

-- the time of a sleep
abbrev sleep_of : Call → List ℕ
sleep_of (SleepUntil t) = t ∷ []
sleep_of _ = []

-- the time that an entry sleeps up to
abbrev sleeps : Option Entry → List ℕ
sleeps None = []
sleeps (Some e) = cond (is_wait e.answer) (sleep_of e.call) []

-- a timer's period is no longer than allowed, and began at a time from which the next entry can't move the clock less far
record IsPeriodic (past : Past) (n : ℕ) (x : WinTimer) : Type 0 where
  period : x.period ≤ 2147483647
  begun : base past x + 2147483647 ≤ latest n

record IsBounded (past : Past) : Type 0 where
  clock_low : clock past ≤ latest (length past)
  sends_low : AllByRecursion (IsTimed (length past)) (sends past)
  timers_low : AllByRecursion (IsPeriodic past (length past)) (timers past)
  sleeps_low : (t : ℕ) → AllByRecursion (λ m. m ≤ latest (length past)) (sleeps (last_entry past t))

later : (n m : ℕ) → m ≤ latest n → m ≤ latest (suc n)
later n m h = omega (arith, h)

later_timed : (n : ℕ) (x : SentMsg) → IsTimed n x → IsTimed (suc n) x
later_timed n x h = record {
  made = later n x.time h.made;
  due = all_weaker (λ t. t ≤ latest n) (λ t. t ≤ latest (suc n)) (later n) (one_of (deadline_in x x.kind)) h.due;
}

-- ---- the least of times

least_two : (n : ℕ) (o : Option ℕ) → least_with n o ≤ n
least_two n None = omega arith
least_two n (Some m) = omega arith

least_low : (b : ℕ) (ns : List ℕ) (t : ℕ) → AllByRecursion (λ n. n ≤ b) ns → least_of ns ≡ Some t → t ≤ b
least_low b [] t h e = absurd cc
least_low b (n ∷ ns) t h e =
    let same : least_with n (least_of ns) ≡ t = cc in
    omega (arith, same, least_two n (least_of ns), h.0)

each_low : (b : ℕ) (gives : ℕ → List ℕ) (n : ℕ) → ((t : ℕ) → AllByRecursion (λ m. m ≤ b) (gives t)) → AllByRecursion (λ m. m ≤ b) (from_each gives n)
each_low b gives zero h = tt
each_low b gives (suc n) h = all_append (λ m. m ≤ b) (from_each gives n) (gives (suc n)) (each_low b gives n h) (h (suc n))

found_timed : (n s : ℕ) (xs : List SentMsg) (x : SentMsg) → AllByRecursion (IsTimed n) xs → find (λ y. eqb y.number s) xs ≡ Some x → IsTimed n x
found_timed n s [] x h e = absurd cc
found_timed n s (y ∷ ys) x h e = by (found_timed n s ys x h.1) (eqb y.number s) e
  where
    by : (find (λ z. eqb z.number s) ys ≡ Some x → IsTimed n x) → (b : Bool) → cond b (Some y) (find (λ z. eqb z.number s) ys) ≡ Some x → IsTimed n x
    by rest true k = let same : y ≡ x = cc in subst (IsTimed n) same h.0
    by rest false k = rest k

due_low : (past : Past) (s : ℕ) (o : Option SentMsg) → IsBounded past → send past s ≡ o → AllByRecursion (λ m. m ≤ latest (length past)) (one_of (elim o as (λ _. Option ℕ) [ Some x ↦ deadline_in x x.kind | None ↦ None ]))
due_low past s None b e = tt
due_low past s (Some x) b e = (found_timed (length past) s (sends past) x b.sends_low e).due

all_due : (past : Past) (xs : List WinTimer) → AllByRecursion (IsPeriodic past (length past)) xs → AllByRecursion (λ m. m ≤ latest (length past)) (map (due_time past) xs)
all_due past [] h = tt
all_due past (x ∷ xs) h = (omega (arith, h.0.period, h.0.begun), all_due past xs h.1)

dues_low : (past : Past) (t : ℕ) (f : Filter) → IsBounded past → AllByRecursion (λ m. m ≤ latest (length past)) (map (due_time past) (passing_timers past t f))
dues_low past t f b = all_due past (passing_timers past t f) (all_filter (IsPeriodic past (length past)) (passes_timer past f) (timers_of past t) (all_filter (IsPeriodic past (length past)) (λ x. eqb (thread_of past x.hwnd) t) (timers past) b.timers_low))

call_low : (past : Past) (t : ℕ) (call : Call) → IsBounded past → AllByRecursion (λ m. m ≤ latest (length past)) (sleep_of call) → AllByRecursion (λ m. m ≤ latest (length past)) (times_of_call past t call)
call_low past t (SleepUntil time) b h = h
call_low past t (Await s) b h = due_low past s (send past s) b refl
call_low past t (Get w min max) b h = dues_low past t (filter_of w min max) b
call_low past t (Peek w min max flags) b h = dues_low past t (filter_of w min max) b
call_low past t _ b h = tt

entry_low : (past : Past) (t : ℕ) (o : Option Entry) → IsBounded past → AllByRecursion (λ m. m ≤ latest (length past)) (sleeps o) → AllByRecursion (λ m. m ≤ latest (length past)) (times_of past t o)
entry_low past t None b h = tt
entry_low past t (Some e) b h = by (is_wait e.answer) h
  where
    by : (w : Bool) → AllByRecursion (λ m. m ≤ latest (length past)) (cond w (sleep_of e.call) []) → AllByRecursion (λ m. m ≤ latest (length past)) (cond w (times_of_call past t e.call) [])
    by true k = call_low past t e.call b k
    by false k = tt

-- the soonest time is no later than the clock may be
soonest_low : (setup : Setup) (past : Past) (t : ℕ) → IsBounded past → soonest setup past ≡ Some t → t ≤ latest (length past)
soonest_low setup past t b e =
    least_low (latest (length past)) (wake_times setup past) t (each_low (latest (length past)) (λ u. times_of past u (last_entry past u)) setup.threads (λ u. entry_low past u (last_entry past u) b (b.sleeps_low u))) e

-- ---- the clock

row_low : (setup : Setup) (past : Past) (call : Call) → IsBounded past → (time : ℕ) → time_told (clock_row setup past call) ≡ Some time → time ≤ latest (suc (length past))
row_low setup past (Tick ms) b time e = by (nat_lt 4294967295 ms) refl e
  where
    by : (c : Bool) → nat_lt 4294967295 ms ≡ c → time_told (refuse c invalid_parameter (answers.Value (clock past + ms))) ≡ Some time → time ≤ latest (suc (length past))
    by true f e = absurd cc
    by false f e =
        let same : clock past + ms ≡ time = cc in
        let small : ms ≤ 4294967295 = grind (arith, nat_tests, f) in
        omega (arith, same, small, b.clock_low)
row_low setup past Advance b time e = by (first_busy setup past) (soonest setup past) refl e
  where
    by : (o p : Option ℕ) → soonest setup past ≡ p → time_told (busy_or o (advanced p)) ≡ Some time → time ≤ latest (suc (length past))
    by (Some t) p soon e = absurd cc
    by None None soon e = absurd cc
    by None (Some s) soon e =
        let same : s ≡ time = cc in
        omega (arith, same, soonest_low setup past s b soon)
row_low setup past _ b time e = absurd cc

told_by : (full clocked : Bool) (x y a : Answer) (time : ℕ) → time_told a ≡ Some time → a ≡ refuse full Full (cond clocked x y) → clocked ≡ true → time_told x ≡ Some time
told_by true clocked x y a time h e is = let none : time_told a ≡ None = ap time_told e in absurd cc
told_by false true x y a time h e is = ap time_told (sym e) ∙ h
told_by false false x y a time h e is = absurd (false≢true is)

clock_step : (setup : Setup) (past : Past) (e : Entry) → IsLawful setup (e ∷ past) → IsBounded past → clock (e ∷ past) ≤ latest (suc (length past))
unfolding reply
clock_step setup past e h b = subst (λ c. c ≤ latest (suc (length past))) (sym (clock-next e past)) (by (is_refused e))
  where
    stays : clock past ≤ latest (suc (length past))
    stays = later (length past) (clock past) b.clock_low

    told : (c : Bool) → eqb e.who.0 0 ≡ c → (o : Option ℕ) → time_told e.answer ≡ o → unwrap_or (elim o as (λ _. Option ℕ) [ None ↦ None | Some v ↦ cond c (Some v) None ]) (clock past) ≤ latest (suc (length past))
    told c own None is = stays
    told false own (Some v) is = stays
    told true own (Some v) is = row_low setup past e.call b v (told_by (is_full past) (eqb e.who.0 0) (clock_row setup past e.call) (thread_reply setup past e.who.0 e.call) e.answer v is h.1 own)

    shown : (o : Option ℕ) → time_told e.answer ≡ o → unwrap_or (if_clock e.who.0 o) (clock past) ≤ latest (suc (length past))
    shown None is = stays
    shown (Some v) is = told (eqb e.who.0 0) refl (Some v) is

    by : (c : Bool) → unwrap_or (elim c as (λ _. Option ℕ) [ true ↦ None | false ↦ if_clock e.who.0 (time_told e.answer) ]) (clock past) ≤ latest (suc (length past))
    by true = stays
    by false = shown (time_told e.answer) refl

-- ---- a new send

made_now : (past : Past) (x : SentMsg) (k : Kind) → x.time ≡ clock past → x.kind ≡ k → clock past ≤ latest (length past) → ((y : SentMsg) → y.time ≡ clock past → AllByRecursion (λ t. t ≤ latest (suc (length past))) (one_of (deadline_in y k))) → IsTimed (suc (length past)) x
made_now past x k now kind low due = record {
  made = omega (arith, now, low);
  due = subst (λ (j : Kind). AllByRecursion (λ t. t ≤ latest (suc (length past))) (one_of (deadline_in x j))) (sym kind) (due x now);
}

made_timed : (past : Past) (e : Entry) (a : Answer) (w m p q : ℕ) (k : Kind) → clock past ≤ latest (length past) → ((x : SentMsg) → x.time ≡ clock past → AllByRecursion (λ t. t ≤ latest (suc (length past))) (one_of (deadline_in x k))) → AllByRecursion (IsTimed (suc (length past))) (sent_as a e past w m p q k)
made_timed past e (answers.Inside s n) w m p q k low due = (made_now past _ k refl refl low due, tt)
made_timed past e (answers.Begun s) w m p q k low due = (made_now past _ k refl refl low due, tt)
made_timed past e _ w m p q k low due = tt

-- the milliseconds of a timeout send that is no refusal
few_ms : (past : Past) (who w m : ℕ) (beyond : Bool) (ms : ℕ) (a : Answer) → is_refusal a ≡ false → refuse (is_no_message m || (beyond || nat_lt 4294967295 ms)) invalid_parameter (waiting_send past who w) ≡ a → ms ≤ 4294967295
few_ms past who w m beyond ms a hit e =
    let both = not_refused (is_no_message m || (beyond || nat_lt 4294967295 ms)) invalid_parameter (waiting_send past who w) a hit e in
    let two = or_parts (is_no_message m) (beyond || nat_lt 4294967295 ms) both.0 in
    let last = or_parts beyond (nat_lt 4294967295 ms) two.1 in
    let small : nat_lt 4294967295 ms ≡ false = last.1 in
    grind (arith, nat_tests, small)

sent_timed : (setup : Setup) (past : Past) (e : Entry) (call : Call) → clock past ≤ latest (length past) → is_refused e ≡ false → e.answer ≡ reply setup past e.who.0 call → AllByRecursion (IsTimed (suc (length past))) (sends_by call e past)
sent_timed setup past e (Send w m p q) low fine right = made_timed past e e.answer w m p q WaitKind low (λ x is. tt)
sent_timed setup past e (SendTimeout w m p q flags ms) low fine right =
    let few = few_ms past e.who.0 w m (has_beyond flags setup.smto) ms e.answer fine (by_call setup past e.who.0 (SendTimeout w m p q flags ms) e.answer (sym right) refl fine).is_row in
    made_timed past e e.answer w m p q (WithTimeout flags ms) low (λ x is. (omega (arith, low, is, few), tt))
sent_timed setup past e (SendNotify w m p q) low fine right = made_timed past e e.answer w m p q Notify low (λ x is. tt)
sent_timed setup past e (SendCallback w m p q n extra) low fine right = made_timed past e e.answer w m p q (WithCallback n extra) low (λ x is. tt)
sent_timed setup past e _ low fine right = tt

sends_step : (setup : Setup) (past : Past) (e : Entry) → IsLawful setup (e ∷ past) → IsBounded past → AllByRecursion (IsTimed (suc (length past))) (sends (e ∷ past))
sends_step setup past e h b = by (is_refused e) refl
  where
    old : AllByRecursion (IsTimed (suc (length past))) (sends past)
    old = all_weaker (IsTimed (length past)) (IsTimed (suc (length past))) (later_timed (length past)) (sends past) b.sends_low

    by : (c : Bool) → is_refused e ≡ c → AllByRecursion (IsTimed (suc (length past))) (sends (e ∷ past))
    by true k = subst (AllByRecursion (IsTimed (suc (length past)))) (sym (sends-refused e past k)) old
    by false k = subst (AllByRecursion (IsTimed (suc (length past)))) (sym (sends-next e past k)) (all_append (IsTimed (suc (length past))) (sends past) (sends_by e.call e past) old (sent_timed setup past e e.call b.clock_low k h.1))

-- ---- a sleep

wait_is : (a : Answer) → is_wait a ≡ true → a ≡ answers.Wait
wait_is answers.Wait h = refl
wait_is _ h = absurd (false≢true h)

slept_low : (setup : Setup) (past : Past) (who : ℕ) (call : Call) → clock past ≤ latest (length past) → answers.Wait ≡ reply setup past who call → AllByRecursion (λ m. m ≤ latest (suc (length past))) (sleep_of call)
slept_low setup past who (SleepUntil t) low right =
    let is = (by_row setup past who (SleepUntil t) answers.Wait (sym right) refl).is_row in
    let near = (not_refused (nat_lt (clock past + 4294967295) t) invalid_parameter (woken (nat_le t (clock past))) answers.Wait refl is).0 in
    let small : t ≤ clock past + 4294967295 = grind (arith, nat_tests, near) in
    (omega (arith, small, low), tt)
slept_low setup past who _ low right = tt

own_low : (setup : Setup) (past : Past) (e : Entry) → IsLawful setup (e ∷ past) → clock past ≤ latest (length past) → AllByRecursion (λ m. m ≤ latest (suc (length past))) (sleeps (Some e))
own_low setup past e h low = by (is_wait e.answer) refl
  where
    by : (w : Bool) → is_wait e.answer ≡ w → AllByRecursion (λ m. m ≤ latest (suc (length past))) (cond w (sleep_of e.call) [])
    by true k = slept_low setup past e.who.0 e.call low (sym (wait_is e.answer k) ∙ h.1)
    by false k = tt

sleeps_step : (setup : Setup) (past : Past) (e : Entry) (t : ℕ) → IsLawful setup (e ∷ past) → IsBounded past → AllByRecursion (λ m. m ≤ latest (suc (length past))) (sleeps (last_entry (e ∷ past) t))
sleeps_step setup past e t h b = subst (λ o. AllByRecursion (λ m. m ≤ latest (suc (length past))) (sleeps o)) (sym (last_entry-next e past t)) (by (eqb e.who.0 t))
  where
    by : (c : Bool) → AllByRecursion (λ m. m ≤ latest (suc (length past))) (sleeps (cond c (Some e) (last_entry past t)))
    by true = own_low setup past e h b.clock_low
    by false = all_weaker (λ m. m ≤ latest (length past)) (λ m. m ≤ latest (suc (length past))) (later (length past)) (sleeps (last_entry past t)) (b.sleeps_low t)

-- ---- timers

-- a timer's period after an entry, where the clock was no later than it can be
period_next : (e : Entry) (past : Past) (x : WinTimer) → clock past ≤ latest (length past) → IsPeriodic past (length past) x → IsPeriodic (e ∷ past) (suc (length past)) x
period_next e past x low h = record { period = h.period; begun = by (is_refused e) refl }
  where
    told : (b : Bool) → restarts x.hwnd x.id e ≡ b → unwrap_or (cond b (Some (clock past)) None) (base past x) + 2147483647 ≤ latest (suc (length past))
    told true is = omega (arith, low)
    told false is = omega (arith, h.begun)

    by : (b : Bool) → is_refused e ≡ b → base (e ∷ past) x + 2147483647 ≤ latest (suc (length past))
    by true is = let same = base-refused e past x is in omega (arith, same, h.begun)
    by false is = subst (λ n. n + 2147483647 ≤ latest (suc (length past))) (sym (base-next e past x is)) (told (restarts x.hwnd x.id e) refl)

-- that of a timer that an entry sets
period_set : (e : Entry) (past : Past) (call : Call) → e.call ≡ call → is_refused e ≡ false → clock past ≤ latest (length past) → AllByRecursion (IsPeriodic (e ∷ past) (suc (length past))) (timers_set call)
period_set e past (SetTimer w id ms) is fine low = (record { period = least (max ms 10) 2147483647; begun = now }, tt)
  where
    least : (a b : ℕ) → min a b ≤ b
    least a b = omega arith

    same : (w id : ℕ) → (eqb w w && eqb id id) ≡ true
    same w id = grind arith

    sets_it : restarts w id e ≡ true
    sets_it = ap (λ c. sets w id c || is_message_of w id (removed_timer e.answer c)) is ∙ ap (λ b. b || is_message_of w id (removed_timer e.answer (SetTimer w id ms))) (same w id)

    now : base (e ∷ past) (record { hwnd = w; id = id; period = min (max ms 10) 2147483647 }) + 2147483647 ≤ latest (suc (length past))
    now =
        let told : base (e ∷ past) (record { hwnd = w; id = id; period = min (max ms 10) 2147483647 }) ≡ clock past = base-next e past (record { hwnd = w; id = id; period = min (max ms 10) 2147483647 }) fine ∙ ap (λ b. unwrap_or (cond b (Some (clock past)) None) (base past (record { hwnd = w; id = id; period = min (max ms 10) 2147483647 }))) sets_it in
        omega (arith, told, low)
period_set e past _ is fine low = tt

timers_step : (e : Entry) (past : Past) → IsBounded past → AllByRecursion (IsPeriodic (e ∷ past) (suc (length past))) (timers (e ∷ past))
timers_step e past b = by (is_refused e) refl
  where
    old : AllByRecursion (IsPeriodic (e ∷ past) (suc (length past))) (timers past)
    old = all_weaker (IsPeriodic past (length past)) (IsPeriodic (e ∷ past) (suc (length past))) (λ x. period_next e past x b.clock_low) (timers past) b.timers_low

    by : (c : Bool) → is_refused e ≡ c → AllByRecursion (IsPeriodic (e ∷ past) (suc (length past))) (timers (e ∷ past))
    by true k = subst (AllByRecursion (IsPeriodic (e ∷ past) (suc (length past)))) (sym (timers-refused e past k)) old
    by false k = subst (AllByRecursion (IsPeriodic (e ∷ past) (suc (length past)))) (sym (timers-next e past k))
        (all_append (IsPeriodic (e ∷ past) (suc (length past))) (filter (λ x. not (ends_timer e.call x || drops_window e past x.hwnd)) (timers past)) (timers_set e.call)
        (all_filter (IsPeriodic (e ∷ past) (suc (length past))) (λ x. not (ends_timer e.call x || drops_window e past x.hwnd)) (timers past) old)
        (period_set e past e.call refl k b.clock_low))

-- ---- every lawful past

bounded : (setup : Setup) (past : Past) → IsLawful setup past → IsBounded past
bounded setup [] h = record { clock_low = omega arith; sends_low = tt; timers_low = tt; sleeps_low = λ t. tt }
bounded setup (e ∷ past) h =
    let b = bounded setup past h.0 in
    record {
      clock_low = clock_step setup past e h b;
      sends_low = sends_step setup past e h b;
      timers_low = timers_step e past b;
      sleeps_low = λ t. sleeps_step setup past e t h b;
    }

-- the clock of a history that is no longer than allowed
pub clock_small : (setup : Setup) (past : Past) → IsLawful setup past → length past ≤ 2097152 → clock past < clock_limit
clock_small setup past h short = omega (arith, (bounded setup past h).clock_low, short)

-- the time of a send
pub send_time : (setup : Setup) (past : Past) (s : ℕ) (x : SentMsg) → IsLawful setup past → length past ≤ 2097152 → send past s ≡ Some x → x.time < clock_limit
send_time setup past s x h short found =
    let low = (found_timed (length past) s (sends past) x (bounded setup past h).sends_low found).made in
    omega (arith, low, short)
