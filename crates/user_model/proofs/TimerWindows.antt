-- The window of each timer is live.
use Rattle.std.proofs.Common.{◌≡◌, ℕ, Bool, true, false, not, eqb, ◌∷◌, [], Option, Some, None, refl, ap, sym, ◌∙◌, subst}
use Rattle.std.specs.Prelude.{◌||◌, ◌&&◌, filter, is_some, option_map, unwrap_or}
use Rattle.std.specs.List.{AllByRecursion}
use Rattle.user_model.specs.declared.call.Call.{Call}
use Rattle.user_model.specs.declared.call.Call.TheVariants as calls
use Rattle.user_model.specs.declared.entry.Answer.TheVariants as answers
use Rattle.user_model.specs.declared.entry.Entry.{Entry}
use Rattle.user_model.specs.declared.entry.Setup.{Setup}
use Rattle.user_model.specs.Past.{Past, is_refused}
use Rattle.user_model.specs.Places.{is_end}
use Rattle.user_model.specs.Windows.{Window, live, window, find_window, is_live, thread_of, drops, drops_kin, drops_window}
use Rattle.user_model.specs.Timers.{WinTimer, timers, timers_set, ends_timer}
use Rattle.user_model.specs.Idle.{reply}
use Rattle.user_model.specs.Legal.{IsLawful}
use Rattle.user_model.proofs.KeptWindows.{not_true, or_neither, window-kept}
use Rattle.user_model.proofs.ListLaws.{all_append, all_kept, all_weaker}
use Rattle.user_model.proofs.WindowFacts.{live_window}
use Rattle.user_model.proofs.WindowLaws.{live-refused}
use Rattle.user_model.proofs.TimerLaws.{timers-next, timers-refused}
use Rattle.user_model.proofs.TimerReplies.{set_okay, set_told}

-- a live window that an entry doesn't drop
pub record IsLeft (e : Entry) (past : Past) (w : ℕ) : Type 0 where
  pub of : Window
  pub was : window past w ≡ Some of
  pub is : window (e ∷ past) w ≡ Some of

pub left_alone : (e : Entry) (past : Past) (w : ℕ) → is_live past w ≡ true → drops_window e past w ≡ false → IsLeft e past w
left_alone e past w lives stays =
    let found = live_window past w lives in
    let kept : drops e (live past) found.0 ≡ false = sym (ap (λ o. unwrap_or (option_map (drops e (live past)) o) false) found.1) ∙ stays in
    record { of = found.0; was = found.1; is = window-kept e past w found.0 found.1 kept }

-- it stays live, and its thread's
pub still_live : (e : Entry) (past : Past) (w : ℕ) → IsLeft e past w → is_live (e ∷ past) w ≡ true
still_live e past w l = ap is_some l.is

pub thread_stays : (e : Entry) (past : Past) (w : ℕ) → IsLeft e past w → thread_of (e ∷ past) w ≡ thread_of past w
thread_stays e past w l = ap (λ o. unwrap_or (option_map (λ (x : Window). x.thread) o) 0) (l.is ∙ sym l.was)

-- a call that drops no window and ends no thread drops no window
pub none_dropped : (e : Entry) (past : Past) (w : ℕ) → ((x : Window) → drops_kin e.call (live past) x ≡ false) → is_end e.answer ≡ false → drops_window e past w ≡ false
none_dropped e past w drops_none no_end = by (window past w)
  where
    by : (o : Option Window) → unwrap_or (option_map (drops e (live past)) o) false ≡ false
    by None = refl
    by (Some x) = ap (λ b. b || is_end e.answer && eqb e.who.0 x.thread) (drops_none x) ∙ ap (λ b. b && eqb e.who.0 x.thread) no_end

-- the window of a timer that is set is live before and after it
pub set_left : (setup : Setup) (past : Past) (e : Entry) (w id ms : ℕ) → e.answer ≡ reply setup past e.who.0 e.call → is_refused e ≡ false → e.call ≡ calls.SetTimer w id ms → IsLeft e past w
set_left setup past e w id ms right fine call =
    let told : reply setup past e.who.0 (calls.SetTimer w id ms) ≡ e.answer = sym (right ∙ ap (reply setup past e.who.0) call) in
    let okay : e.answer ≡ answers.Okay = set_okay setup past e.who.0 w id ms e.answer told fine in
    let set = set_told setup past e.who.0 w id ms (told ∙ okay) in
    left_alone e past w set.own.is_live (none_dropped e past w (λ x. ap (λ c. drops_kin c (live past) x) call) (ap is_end okay))

abbrev IsOfLive : Past → WinTimer → Type 0
IsOfLive past x = is_live past x.hwnd ≡ true

set_live : (setup : Setup) (past : Past) (e : Entry) (call : Call) → e.answer ≡ reply setup past e.who.0 e.call → is_refused e ≡ false → e.call ≡ call → AllByRecursion (IsOfLive (e ∷ past)) (timers_set call)
set_live setup past e (calls.SetTimer w id ms) right fine is = (still_live e past w (set_left setup past e w id ms right fine is), tt)
set_live setup past e _ right fine is = tt

-- the window of each timer is live
pub timers_live : (setup : Setup) (past : Past) → IsLawful setup past → AllByRecursion (λ x. is_live past x.hwnd ≡ true) (timers past)
timers_live setup [] lawful = tt
timers_live setup (e ∷ past) lawful = by (timers_live setup past lawful.0) (is_refused e) refl
  where
    stays : (x : WinTimer) → not (ends_timer e.call x || drops_window e past x.hwnd) ≡ true → is_live past x.hwnd ≡ true → is_live (e ∷ past) x.hwnd ≡ true
    stays x left lives = still_live e past x.hwnd (left_alone e past x.hwnd lives (or_neither (ends_timer e.call x) (drops_window e past x.hwnd) (not_true (ends_timer e.call x || drops_window e past x.hwnd) left)).1)

    by : AllByRecursion (λ x. is_live past x.hwnd ≡ true) (timers past) → (b : Bool) → is_refused e ≡ b → AllByRecursion (λ x. is_live (e ∷ past) x.hwnd ≡ true) (timers (e ∷ past))
    by before true h = subst (AllByRecursion (λ x. is_live (e ∷ past) x.hwnd ≡ true)) (sym (timers-refused e past h))
        (all_weaker (λ x. is_live past x.hwnd ≡ true) (λ x. is_live (e ∷ past) x.hwnd ≡ true) (λ x k. ap (λ ws. is_some (find_window ws x.hwnd)) (live-refused e past h) ∙ k) (timers past) before)
    by before false h = subst (AllByRecursion (λ x. is_live (e ∷ past) x.hwnd ≡ true)) (sym (timers-next e past h))
        (all_append (λ x. is_live (e ∷ past) x.hwnd ≡ true) (filter (λ x. not (ends_timer e.call x || drops_window e past x.hwnd)) (timers past)) (timers_set e.call)
        (all_kept (λ x. is_live past x.hwnd ≡ true) (λ x. is_live (e ∷ past) x.hwnd ≡ true) (λ x. not (ends_timer e.call x || drops_window e past x.hwnd)) stays (timers past) before)
        (set_live setup past e e.call lawful.1 h refl))
