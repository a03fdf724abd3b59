-- Where the clock went on to a time, the thread that waited for it goes on.
use Rattle.std.proofs.Common.{◌≡◌, ℕ, zero, suc, ◌+◌, Bool, true, false, cond, eqb, List, [], ◌∷◌, ◌++◌, Option, Some, None, refl, ap, ◌∙◌, sym, arith}
use Rattle.std.specs.Prelude.{◌&&◌, ◌||◌, filter, find, is_some, map, nat_lt, not, option_map, unwrap_or}
use Rattle.std.proofs.lemmas.Bool.Decides.{nat_tests}
use Rattle.win_num.specs.declared.code.Code.TheVariants.{Full}
use Rattle.user_model.specs.declared.call.Call.{Call}
use Rattle.user_model.specs.declared.call.Call.TheVariants.{Get, Peek, Await, Tick, Advance}
use Rattle.user_model.specs.declared.entry.Entry.{Entry}
use Rattle.user_model.specs.declared.entry.Answer.TheVariants as answers
use Rattle.user_model.specs.declared.entry.Setup.{Setup}
use Rattle.user_model.specs.Past.{Past, is_full, is_refusal, is_refused}
use Rattle.win_num.specs.declared.message.Filter.{Filter}
use Rattle.win_num.specs.declared.names.TheConstants.{NO_WINDOW, WM_TIMER}
use Rattle.win_num.specs.Numbers.{passes_range}
use Rattle.user_model.specs.Places.{clock, is_end}
use Rattle.user_model.specs.Filters.{filter_of}
use Rattle.user_model.specs.Windows.{Window, drops, drops_kin, drops_window, is_below, live, made_by, thread_of, window}
use Rattle.user_model.specs.Retrievals.{removed_timer}
use Rattle.user_model.specs.Timers.{WinTimer, base, due_time, ends_timer, is_message_of, passes_timer, passing_timers, restarts, sets, timers, timers_set}
use Rattle.user_model.specs.Threads.{from_each}
use Rattle.user_model.specs.Sends.{SentMsg, sends, sends_by}
use Rattle.user_model.specs.Refusals.{refuse, invalid_parameter}
use Rattle.user_model.specs.ReplySends.{deadline_in, deadline}
use Rattle.user_model.specs.Idle.{is_wait, last_entry, first_busy, is_quiet, one_of, times_of_call, times_of, least_of, soonest, advanced, busy_or, clock_row, reply}
use Rattle.user_model.specs.Legal.{IsLawful}
use Rattle.user_model.proofs.ClockLaws.{clock-next, last_entry-next}
use Rattle.user_model.proofs.ReplyLaws.{not_refused}
use Rattle.user_model.proofs.SendLaws.{sends-same}
use Rattle.user_model.proofs.ListLaws.{filter_every}
use Rattle.user_model.proofs.WindowLaws.{live-same}
use Rattle.user_model.proofs.TimerLaws.{base-next, timers-next}
use Rattle.user_model.proofs.TimeLaws.{soonest_later}

-- ---- what it tells that the clock went on

row_told : (setup : Setup) (past : Past) (call : Call) (time : ℕ) → clock_row setup past call ≡ answers.Advanced time → (call ≡ Advance) × (soonest setup past ≡ Some time)
row_told setup past (Tick ms) time e = by (nat_lt 4294967295 ms) e
  where
    by : (b : Bool) → refuse b invalid_parameter (answers.Value (clock past + ms)) ≡ answers.Advanced time → (Tick ms ≡ Advance) × (soonest setup past ≡ Some time)
    by true e = absurd cc
    by false e = absurd cc
row_told setup past Advance time e = (refl, by (first_busy setup past) (soonest setup past) e)
  where
    by : (o p : Option ℕ) → busy_or o (advanced p) ≡ answers.Advanced time → p ≡ Some time
    by (Some t) p e = absurd cc
    by None None e = absurd cc
    by None (Some m) e = let same : m ≡ time = cc in ap (λ n. Some n) same
row_told setup past _ time e = absurd cc

-- the clock was told to go on, and this was the soonest time
pub advance_told : (setup : Setup) (past : Past) (call : Call) (time : ℕ) → reply setup past 0 call ≡ answers.Advanced time → (call ≡ Advance) × (soonest setup past ≡ Some time)
unfolding reply
advance_told setup past call time e = row_told setup past call time (not_refused (is_full past) Full (clock_row setup past call) (answers.Advanced time) refl e).1

-- ---- that the clock went on leaves the times that threads wait for

module _ (past : Past) (e : Entry) (time : ℕ) (call : e.call ≡ Advance) (a : e.answer ≡ answers.Advanced time) (actor : e.who.0 ≡ 0) where
  sends_kept : sends (e ∷ past) ≡ sends past
  sends_kept = sends-same e past (ap (λ c. sends_by c e past) call)

  fine : is_refused e ≡ false
  fine = ap is_refusal a

  drops_none : (x : Window) → drops e (live past) x ≡ false
  drops_none x = ap (λ c. drops_kin c (live past) x || (is_end e.answer && eqb e.who.0 x.thread)) call ∙ ap (λ b. is_end b && eqb e.who.0 x.thread) a

  live_kept : live (e ∷ past) ≡ live past
  live_kept = live-same e past (ap (λ c. made_by e.who.0 e.answer c (live past)) call ∙ ap (λ b. made_by e.who.0 b Advance (live past)) a) drops_none

  deadline_same : (s : ℕ) → deadline (e ∷ past) s ≡ deadline past s
  deadline_same s = ap (λ xs. elim (find {X = SentMsg} (λ x. eqb x.number s) xs) as (λ _. Option ℕ) [ Some x ↦ deadline_in x x.kind | None ↦ None ]) sends_kept

  none_dropped : (o : Option Window) → not (unwrap_or (option_map (drops e (live past)) o) false) ≡ true
  none_dropped None = refl
  none_dropped (Some x) = ap not (drops_none x)

  timer_stays : (x : WinTimer) → not (ends_timer e.call x || drops_window e past x.hwnd) ≡ true
  timer_stays x = ap (λ c. not (ends_timer c x || drops_window e past x.hwnd)) call ∙ none_dropped (window past x.hwnd)

  nothing_more : (xs : List WinTimer) → xs ++ [] ≡ xs
  nothing_more [] = refl
  nothing_more (x ∷ xs) = ap (λ ys. x ∷ ys) (nothing_more xs)

  timers_kept : timers (e ∷ past) ≡ timers past
  timers_kept = timers-next e past fine
      ∙ ap (λ xs. xs ++ timers_set e.call) (filter_every (λ x. not (ends_timer e.call x || drops_window e past x.hwnd)) timer_stays (timers past))
      ∙ ap (λ c. timers past ++ timers_set c) call ∙ nothing_more (timers past)

  starts_none : (w id : ℕ) → restarts w id e ≡ false
  starts_none w id = ap (λ c. sets w id c || is_message_of w id (removed_timer e.answer c)) call ∙ ap (λ b. is_message_of w id (removed_timer b Advance)) a

  due_kept : (x : WinTimer) → due_time (e ∷ past) x ≡ due_time past x
  due_kept x = ap (λ n. n + x.period) (base-next e past x fine ∙ ap (λ b. unwrap_or (cond b (Some (clock past)) None) (base past x)) (starts_none x.hwnd x.id))

  dues_mapped : (xs : List WinTimer) → map (due_time (e ∷ past)) xs ≡ map (due_time past) xs
  dues_mapped [] = refl
  dues_mapped (x ∷ xs) = ap (λ n. n ∷ map (due_time (e ∷ past)) xs) (due_kept x) ∙ ap (λ ns. due_time past x ∷ ns) (dues_mapped xs)

  passing_kept : (t : ℕ) (f : Filter) → passing_timers (e ∷ past) t f ≡ passing_timers past t f
  passing_kept t f =
      ap (λ ws. filter (passes_in ws f) (filter (λ x. eqb (unwrap_or (option_map (λ (y : Window). y.thread) (find (λ (y : Window). eqb y.number x.hwnd) ws)) 0) t) (timers (e ∷ past)))) live_kept
      ∙ ap (λ xs. filter (passes_timer past f) (filter (λ x. eqb (thread_of past x.hwnd) t) xs)) timers_kept
    where
      passes_in : List Window → Filter → WinTimer → Bool
      passes_in ws f x = passes_range f.min f.max WM_TIMER && ((eqb f.hwnd 0 || (eqb f.hwnd NO_WINDOW && eqb x.hwnd 0)) || (is_some (find (λ (y : Window). eqb y.number f.hwnd) ws) && (eqb x.hwnd f.hwnd || is_below ws f.hwnd x.hwnd)))

  dues_kept : (t : ℕ) (f : Filter) → map (due_time (e ∷ past)) (passing_timers (e ∷ past) t f) ≡ map (due_time past) (passing_timers past t f)
  dues_kept t f = ap (map (due_time (e ∷ past))) (passing_kept t f) ∙ dues_mapped (passing_timers past t f)

  call_same : (t : ℕ) (c : Call) → times_of_call (e ∷ past) t c ≡ times_of_call past t c
  call_same t (Await s) = ap one_of (deadline_same s)
  call_same t (Get w min max) = dues_kept t (filter_of w min max)
  call_same t (Peek w min max flags) = dues_kept t (filter_of w min max)
  call_same t _ = refl

  entry_same : (t : ℕ) (o : Option Entry) → times_of (e ∷ past) t o ≡ times_of past t o
  entry_same t None = refl
  entry_same t (Some x) = ap (λ ns. cond (is_wait x.answer) ns []) (call_same t x.call)

  wakes_same : (n : ℕ) → from_each (λ t. times_of (e ∷ past) t (last_entry (e ∷ past) t)) n ≡ from_each (λ t. times_of past t (last_entry past t)) n
  wakes_same zero = refl
  wakes_same (suc n) =
      let miss : eqb e.who.0 (suc n) ≡ false = grind (arith, nat_tests, actor) in
      let last : last_entry (e ∷ past) (suc n) ≡ last_entry past (suc n) = last_entry-next e past (suc n) ∙ ap (λ b. cond b (Some e) (last_entry past (suc n))) miss in
      ap (λ ns. ns ++ times_of (e ∷ past) (suc n) (last_entry (e ∷ past) (suc n))) (wakes_same n)
      ∙ ap (λ ns. from_each (λ t. times_of past t (last_entry past t)) n ++ ns) (ap (times_of (e ∷ past) (suc n)) last ∙ entry_same (suc n) (last_entry past (suc n)))

-- ---- so not all is quiet

-- where the clock went on, some thread isn't idle
pub advance_wakes : (setup : Setup) (past : Past) (e : Entry) (time : ℕ) → IsLawful setup (e ∷ past) → e.who.0 ≡ 0 → e.answer ≡ answers.Advanced time → is_quiet setup (e ∷ past) ≡ false
advance_wakes setup past e time lawful actor a = by (is_quiet setup (e ∷ past)) refl
  where
    told : (e.call ≡ Advance) × (soonest setup past ≡ Some time)
    told = advance_told setup past e.call time (ap (λ w. reply setup past w e.call) (sym actor) ∙ sym lawful.1 ∙ a)

    now : clock (e ∷ past) ≡ time
    now = clock-next e past ∙ rw (a, actor) refl

    soon : soonest setup (e ∷ past) ≡ Some time
    soon = ap least_of (wakes_same past e time told.0 a actor setup.threads) ∙ told.1

    by : (b : Bool) → is_quiet setup (e ∷ past) ≡ b → is_quiet setup (e ∷ past) ≡ false
    by true quiet = let later = soonest_later setup (e ∷ past) lawful quiet time soon in absurd (omega (arith, later, now))
    by false quiet = quiet
