-- What is looked up in the timers that are kept is what the past says.
use Rattle.std.proofs.Common.{◌≡◌, ℕ, Bool, true, false, cond, eqb, ◌∷◌, List, [], length, Option, Some, None, refl, ap, sym, ◌∙◌, arith}
use Rattle.std.specs.Prelude.{◌&&◌, ◌||◌, filter, map, min, nat_le, nat_lt, is_some, option_map}
use Rattle.std.specs.List.{list_any}
use Rattle.std.proofs.lemmas.Bool.{false≢true, eqb-true}
use Rattle.std.proofs.lemmas.Bool.Decides.{nat_tests}
use Rattle.win_num.specs.Numbers.{passes_range}
use Rattle.win_num.specs.declared.message.Filter.{Filter}
use Rattle.win_num.specs.declared.message.Hwnd.{Hwnd}
use Rattle.win_num.specs.declared.message.Thread.{Thread}
use Rattle.win_num.specs.declared.names.TheConstants.{NO_WINDOW, WM_TIMER}
use Rattle.win_rows.specs.Windows.{Windows}
use Rattle.win_tree.specs.Kin as kept_kin
use Rattle.timer_source.specs.declared.timer.Timer.{Timer}
use Rattle.timer_source.specs.Settings as settings
use Rattle.timer_source.specs.Settings.{first_due, first_passing, has_due, is_due_after, is_set, next_due, of_thread, timer_of}
use Rattle.user_model.specs.declared.entry.Setup.{Setup}
use Rattle.user_model.specs.Past.{Past}
use Rattle.user_model.specs.Places.{clock}
use Rattle.user_model.specs.Windows.{find_window, is_live, is_below, thread_of}
use Rattle.user_model.specs.Filters.{passes_window}
use Rattle.user_model.specs.Timers.{WinTimer, due, due_time, is_due, is_timer, passes_timer, passing_timers, sooner, soonest_timer, timer, timers, timers_of}
use Rattle.user_model.specs.Since.{has_due_after}
use Rattle.user_model.specs.Idle.{least_of, least_with}
use Rattle.user_model.specs.Legal.{IsLawful}
use Rattle.user_model.proofs.ListLaws.{all_found, filter_none, filter_same, filter_twice}
use Rattle.user_model.proofs.TimerWindows.{timers_live}
use Rattle.thread_state.specs.Passing.{passes_window_in}
use Rattle.window_state.specs.Trees.{IsTreeAt}
use Rattle.window_state.proofs.Bridges.{below_made, live_made}
use Rattle.window_state.proofs.TreeFacts.{found_passes}
use Rattle.timer_state.specs.TimerLists.{as_due, kept, timers_at}
use Rattle.timer_state.proofs.Kept.{filter_mapped, is_set-kept, length_mapped, of_thread-kept}

-- whether a filter's window lets a window pass
window_passes : (past : Past) (t : Windows) (wanted w : ℕ) → IsTreeAt past t → passes_window_in t.live wanted w ≡ passes_window past wanted w
window_passes past t wanted w at =
    ap (λ b. eqb wanted 0 || eqb wanted NO_WINDOW && eqb w 0 || b && (eqb w wanted || kept_kin.is_below t.live wanted w)) (sym (live_made t.live wanted) ∙ ap (λ ws. is_some (find_window ws wanted)) at.windows)
    ∙ ap (λ b. eqb wanted 0 || eqb wanted NO_WINDOW && eqb w 0 || is_live past wanted && (eqb w wanted || b)) (sym (below_made t.live wanted w) ∙ ap (λ ws. is_below ws wanted w) at.windows)

-- ---- the one that is due first

sooner-kept : (past : Past) (x : WinTimer) (o : Option WinTimer) → settings.sooner (kept past x) (option_map (kept past) o) ≡ kept past (sooner past x o)
sooner-kept past x None = refl
sooner-kept past x (Some y) = by (nat_le (due_time past x) (due_time past y))
  where
    by : (b : Bool) → cond b (kept past x) (kept past y) ≡ kept past (cond b x y)
    by true = refl
    by false = refl

soonest-kept : (past : Past) (xs : List WinTimer) → settings.soonest (map (kept past) xs) ≡ option_map (kept past) (soonest_timer past xs)
soonest-kept past [] = refl
soonest-kept past (x ∷ xs) = ap (λ o. Some (settings.sooner (kept past x) o)) (soonest-kept past xs) ∙ ap (λ s. Some s) (sooner-kept past x (soonest_timer past xs))

seen : (past : Past) (o : Option WinTimer) → option_map timer_of (option_map (kept past) o) ≡ option_map (as_due past) o
seen past None = refl
seen past (Some x) = refl

-- the first of those that pass a test
passing-kept : (past : Past) (t : Thread) (test : Timer → Bool) → first_passing t test (timers_at past) ≡ option_map (as_due past) (soonest_timer past (filter (λ x. eqb (thread_of past x.hwnd) t.0 && test (as_due past x)) (timers past)))
passing-kept past t test =
    ap (λ l. option_map timer_of (settings.soonest l)) (filter_mapped (λ s. eqb s.thread.0 t.0 && test (timer_of s)) (kept past) (timers past))
    ∙ ap (option_map timer_of) (soonest-kept past (filter (λ x. eqb (thread_of past x.hwnd) t.0 && test (as_due past x)) (timers past)))
    ∙ seen past (soonest_timer past (filter (λ x. eqb (thread_of past x.hwnd) t.0 && test (as_due past x)) (timers past)))

turned : (own late window : Bool) → (own && (late && window)) ≡ (late && (window && own))
turned true true true = refl
turned true true false = refl
turned true false window = refl
turned false true true = refl
turned false true false = refl
turned false false window = refl

swapped_two : (own window : Bool) → (own && window) ≡ (window && own)
swapped_two true true = refl
swapped_two true false = refl
swapped_two false true = refl
swapped_two false false = refl

-- of those of a thread that pass a filter
those_passing : (past : Past) (t : ℕ) (f : Filter) → passing_timers past t f ≡ filter (λ x. passes_timer past f x && eqb (thread_of past x.hwnd) t) (timers past)
those_passing past t f = filter_twice (passes_timer past f) (λ x. eqb (thread_of past x.hwnd) t) (timers past)

those_due : (past : Past) (t : ℕ) (f : Filter) → filter (is_due past) (passing_timers past t f) ≡ filter (λ x. is_due past x && (passes_timer past f x && eqb (thread_of past x.hwnd) t)) (timers past)
those_due past t f = ap (filter (is_due past)) (those_passing past t f) ∙ filter_twice (is_due past) (λ x. passes_timer past f x && eqb (thread_of past x.hwnd) t) (timers past)

in_range : (past : Past) (f : Filter) (x : WinTimer) → passes_range f.min f.max WM_TIMER ≡ true → passes_timer past f x ≡ passes_window past f.hwnd x.hwnd
in_range past f x h = ap (λ b. b && passes_window past f.hwnd x.hwnd) h

-- the filter's range lets WM_TIMER pass, or not
pub within_range : (r p : Bool) → (r ≡ true → p ≡ true) × (p ≡ true → r ≡ true) → r ≡ true → p ≡ true
within_range r p iff h = iff.0 h

pub out_of_range : (r p : Bool) → (r ≡ true → p ≡ true) × (p ≡ true → r ≡ true) → r ≡ false → p ≡ false
out_of_range r true iff h = absurd (false≢true (sym h ∙ iff.1 refl))
out_of_range r false iff h = refl

-- the first due timer that passes
pub due_found : (past : Past) (t : Windows) (thread : Thread) (f : Filter) (time : ℕ) → IsTreeAt past t → time ≡ clock past → passes_range f.min f.max WM_TIMER ≡ true → first_due thread (λ x. passes_window_in t.live f.hwnd x.hwnd.0) time (timers_at past) ≡ option_map (as_due past) (due past thread.0 f)
due_found past t thread f time at now range =
    ap (λ n. first_due thread (λ x. passes_window_in t.live f.hwnd x.hwnd.0) n (timers_at past)) now
    ∙ passing-kept past thread (settings.is_due_and (clock past) (λ x. passes_window_in t.live f.hwnd x.hwnd.0))
    ∙ ap (λ l. option_map (as_due past) (soonest_timer past l)) (filter_same (λ x. eqb (thread_of past x.hwnd) thread.0 && (is_due past x && passes_window_in t.live f.hwnd x.hwnd)) (λ x. is_due past x && (passes_timer past f x && eqb (thread_of past x.hwnd) thread.0)) same (timers past) ∙ sym (those_due past thread.0 f))
  where
    same : (x : WinTimer) → (eqb (thread_of past x.hwnd) thread.0 && (is_due past x && passes_window_in t.live f.hwnd x.hwnd)) ≡ (is_due past x && (passes_timer past f x && eqb (thread_of past x.hwnd) thread.0))
    same x =
        ap (λ b. eqb (thread_of past x.hwnd) thread.0 && (is_due past x && b)) (window_passes past t f.hwnd x.hwnd at ∙ sym (in_range past f x range))
        ∙ turned (eqb (thread_of past x.hwnd) thread.0) (is_due past x) (passes_timer past f x)

-- none passes whose number the filter doesn't let pass
none_passes : (past : Past) (t : ℕ) (f : Filter) → passes_range f.min f.max WM_TIMER ≡ false → passing_timers past t f ≡ []
none_passes past t f h = filter_none (passes_timer past f) (λ x. ap (λ b. b && passes_window past f.hwnd x.hwnd) h) (timers_of past t)

pub none_due : (past : Past) (t : ℕ) (f : Filter) → passes_range f.min f.max WM_TIMER ≡ false → None ≡ option_map (as_due past) (due past t f)
none_due past t f h = sym (ap (λ l. option_map (as_due past) (soonest_timer past (filter (is_due past) l))) (none_passes past t f h))

-- ---- the time at which the first one is due

lesser : (past : Past) (x : WinTimer) (o : Option WinTimer) → due_time past (sooner past x o) ≡ least_with (due_time past x) (option_map (due_time past) o)
lesser past x None = refl
lesser past x (Some y) = by (nat_le (due_time past x) (due_time past y)) refl
  where
    first_lesser : (n m : ℕ) → nat_le n m ≡ true → n ≡ min n m
    first_lesser n m h = grind (arith, nat_tests, h)

    second_lesser : (n m : ℕ) → nat_le n m ≡ false → m ≡ min n m
    second_lesser n m h = grind (arith, nat_tests, h)

    by : (b : Bool) → nat_le (due_time past x) (due_time past y) ≡ b → due_time past (cond b x y) ≡ min (due_time past x) (due_time past y)
    by true h = first_lesser (due_time past x) (due_time past y) h
    by false h = second_lesser (due_time past x) (due_time past y) h

least_due : (past : Past) (xs : List WinTimer) → option_map (due_time past) (soonest_timer past xs) ≡ least_of (map (due_time past) xs)
least_due past [] = refl
least_due past (x ∷ xs) = ap (λ n. Some n) (lesser past x (soonest_timer past xs)) ∙ ap (λ o. Some (least_with (due_time past x) o)) (least_due past xs)

told_due : (past : Past) (o : Option WinTimer) → option_map (λ (x : Timer). x.due) (option_map (as_due past) o) ≡ option_map (due_time past) o
told_due past None = refl
told_due past (Some x) = refl

-- the time of the first timer that passes
pub next_found : (past : Past) (t : Windows) (thread : Thread) (f : Filter) → IsTreeAt past t → passes_range f.min f.max WM_TIMER ≡ true → next_due thread (λ x. passes_window_in t.live f.hwnd x.hwnd.0) (timers_at past) ≡ least_of (map (due_time past) (passing_timers past thread.0 f))
next_found past t thread f at range =
    ap (option_map (λ (x : Timer). x.due)) (passing-kept past thread (λ x. passes_window_in t.live f.hwnd x.hwnd.0))
    ∙ told_due past (soonest_timer past (filter (λ x. eqb (thread_of past x.hwnd) thread.0 && passes_window_in t.live f.hwnd x.hwnd) (timers past)))
    ∙ ap (λ l. option_map (due_time past) (soonest_timer past l)) (filter_same (λ x. eqb (thread_of past x.hwnd) thread.0 && passes_window_in t.live f.hwnd x.hwnd) (λ x. passes_timer past f x && eqb (thread_of past x.hwnd) thread.0) same (timers past) ∙ sym (those_passing past thread.0 f))
    ∙ least_due past (passing_timers past thread.0 f)
  where
    same : (x : WinTimer) → (eqb (thread_of past x.hwnd) thread.0 && passes_window_in t.live f.hwnd x.hwnd) ≡ (passes_timer past f x && eqb (thread_of past x.hwnd) thread.0)
    same x =
        ap (λ b. eqb (thread_of past x.hwnd) thread.0 && b) (window_passes past t f.hwnd x.hwnd at ∙ sym (in_range past f x range))
        ∙ swapped_two (eqb (thread_of past x.hwnd) thread.0) (passes_timer past f x)

pub none_next : (past : Past) (t : ℕ) (f : Filter) → passes_range f.min f.max WM_TIMER ≡ false → None ≡ least_of (map (due_time past) (passing_timers past t f))
none_next past t f h = sym (ap (λ l. least_of (map (due_time past) l)) (none_passes past t f h))

-- ---- whether there is one

-- a window that has a timer is live
pub owner_lives : (setup : Setup) (past : Past) (w id : ℕ) → IsLawful setup past → is_live past w ≡ false → timer past w id ≡ None
owner_lives setup past w id lawful gone = by (timer past w id) refl
  where
    first_part : (a b : Bool) → (a && b) ≡ true → a ≡ true
    first_part true b h = refl
    first_part false b h = absurd (false≢true h)

    by : (o : Option WinTimer) → timer past w id ≡ o → o ≡ None
    by None found = refl
    by (Some x) found =
        let lives : is_live past x.hwnd ≡ true = all_found (λ y. is_live past y.hwnd ≡ true) (is_timer w id) (timers past) x (timers_live setup past lawful) found in
        let same : x.hwnd ≡ w = eqb-true x.hwnd w (first_part (eqb x.hwnd w) (eqb x.id id) (found_passes (is_timer w id) (timers past) x found)) in
        absurd (false≢true (sym gone ∙ sym (ap (is_live past) same) ∙ lives))

pub timer_found : (past : Past) (window : Hwnd) (w id : ℕ) → window.0 ≡ w → is_set window id (timers_at past) ≡ is_some (timer past w id)
timer_found past window w id same = is_set-kept past window id (timers past) ∙ ap (λ n. is_some (timer past n id)) same

-- ---- whether a thread has as many as it may have

pub full_found : (past : Past) (t : Thread) → nat_le 256 (length (of_thread t (timers_at past))) ≡ nat_le 256 (length (timers_of past t.0))
full_found past t = ap (nat_le 256) (ap length (of_thread-kept past t (timers past)) ∙ length_mapped (kept past) (timers_of past t.0))

-- ---- the timers that are due since a time

any_mapped : {A B : Type 0} (f : A → B) (test : B → Bool) (xs : List A) → list_any test (map f xs) ≡ list_any (λ x. test (f x)) xs
any_mapped f test [] = refl
any_mapped f test (x ∷ xs) = ap (λ b. test (f x) || b) (any_mapped f test xs)

any_filtered : {A : Type 0} (own test : A → Bool) (xs : List A) → list_any (λ x. own x && test x) xs ≡ list_any test (filter own xs)
any_filtered own test [] = refl
any_filtered own test (x ∷ xs) = by (own x) (any_filtered own test xs)
  where
    by : (b : Bool) → list_any (λ x. own x && test x) xs ≡ list_any test (filter own xs) → ((b && test x) || list_any (λ x. own x && test x) xs) ≡ list_any test (cond b (x ∷ filter own xs) (filter own xs))
    by true rest = ap (λ b. test x || b) rest
    by false rest = rest

pub due_since : (past : Past) (thread : Thread) (after time : ℕ) → time ≡ clock past → has_due thread after time (timers_at past) ≡ has_due_after past thread.0 after
due_since past thread after time now =
    ap (λ n. has_due thread after n (timers_at past)) now
    ∙ any_mapped (kept past) (λ s. eqb s.thread.0 thread.0 && is_due_after after (clock past) s) (timers past)
    ∙ any_filtered (λ x. eqb (thread_of past x.hwnd) thread.0) (λ x. is_due past x && nat_lt after (due_time past x)) (timers past)
