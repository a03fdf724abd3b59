-- Timers that are set, in the order of their setting, and which of them is due first.
use Rattle.std.specs.Prelude.{if◌then◌else◌, ◌≡◌, ℕ, ◌+◌, ◌<◌, ◌==◌, nat_le, nat_lt, min, max, Bool, true, not, ◌&&◌, List, [], ◌∷◌, length, map, filter, All, Option, Some, None}
use Rattle.std.specs.List.{list_any}
use Rattle.std.specs.Option.{option_map}
use Rattle.std.specs.Fn.{Shared}
use denote.Ref.{Bor}
use Rattle.win_num.specs.Clocks.{clock_limit}
use Rattle.win_num.specs.declared.message.Hwnd.{Hwnd}
use Rattle.win_num.specs.declared.message.Thread.{Thread}
use Rattle.timer_source.specs.declared.setting.Setting.{Setting}
use Rattle.timer_source.specs.declared.timer.Timer.{Timer}

-- whether the setting is of this window and has this id
abbrev pub is_of : Hwnd → ℕ → Setting → Bool
is_of w id s = (s.hwnd.0 == w.0) && (s.id == id)

-- whether the window has a timer with this id
abbrev pub is_set : Hwnd → ℕ → List Setting → Bool
is_set w id settings = list_any (is_of w id) settings

-- the settings but that of the window's timer
abbrev pub without : Hwnd → ℕ → List Setting → List Setting
without w id settings = filter (λ s. not (is_of w id s)) settings

-- the settings but those of the window
abbrev pub without_window : Hwnd → List Setting → List Setting
without_window w settings = filter (λ s. not (s.hwnd.0 == w.0)) settings

-- those of a thread
abbrev pub of_thread : Thread → List Setting → List Setting
of_thread t settings = filter (λ s. s.thread.0 == t.0) settings

-- whether the thread has the timer of the window with this id
abbrev pub is_set_for : Thread → Hwnd → ℕ → List Setting → Bool
is_set_for t w id settings = list_any (λ s. (s.thread.0 == t.0) && is_of w id s) settings

-- whether the thread has 256 timers, and that of the window with this id is none of them
abbrev pub has_no_room : Thread → Hwnd → ℕ → List Setting → Bool
has_no_room t w id settings = not (is_set_for t w id settings) && nat_le 256 (length (of_thread t settings))

-- milliseconds as a period: below 10 they count as 10, above 2147483647 as that
abbrev pub period_of : ℕ → ℕ
period_of ms = min (max ms 10) 2147483647

-- a timer that is set at the clock
abbrev pub setting_at : Thread → Hwnd → ℕ → ℕ → ℕ → Setting
setting_at t w id ms clock = record { thread = t; hwnd = w; id = id; period = period_of ms; base = clock }

-- the setting, with its period begun anew at the clock where it is that of the window's timer
abbrev pub anew : Hwnd → ℕ → ℕ → Setting → Setting
anew w id clock s = if is_of w id s then record s { base = clock } else s

-- the settings, with the period of the window's timer begun anew at the clock
abbrev pub restarted : Hwnd → ℕ → ℕ → List Setting → List Setting
restarted w id clock settings = map (anew w id clock) settings

-- when a timer is due
abbrev pub due_of : Setting → ℕ
due_of s = s.base + s.period

-- a setting as a timer
abbrev pub timer_of : Setting → Timer
timer_of s = record { hwnd = s.hwnd; id = s.id; due = due_of s }

-- the one of two that is due first, the first of them where both are due at once
abbrev pub sooner : Setting → Option Setting → Setting
sooner s None = s
sooner s (Some r) = if nat_le (due_of s) (due_of r) then s else r

-- the one that is due first, and of those the one that was set first
abbrev pub soonest : List Setting → Option Setting
soonest [] = None
soonest (s ∷ settings) = Some (sooner s (soonest settings))

-- the timers of a thread that pass a test
abbrev pub passing : Thread → (Timer → Bool) → List Setting → List Setting
passing t test settings = filter (λ s. (s.thread.0 == t.0) && test (timer_of s)) settings

-- the first timer of a thread that passes a test
abbrev pub first_passing : Thread → (Timer → Bool) → List Setting → Option Timer
first_passing t test settings = option_map timer_of (soonest (passing t test settings))

-- whether the timer is due before the other, if there is one
abbrev pub is_before : Timer → Option Timer → Bool
is_before x None = true
is_before x (Some y) = nat_lt x.due y.due

-- the timer of the two that is due first, the one of before where both are due at once
abbrev pub or_timer : Option Timer → Timer → Timer
or_timer None x = x
or_timer (Some y) x = if is_before x (Some y) then x else y

-- the first timer so far, with one more that counts if it passes
abbrev pub with_timer : (Timer → Bool) → Option Timer → Timer → Option Timer
with_timer test best x = if test x then Some (or_timer best x) else best

-- a test, and that the timer's time has come
abbrev pub is_due_and : ℕ → (Timer → Bool) → Timer → Bool
is_due_and clock test x = nat_le x.due clock && test x

-- the first timer of a thread that is due at the clock and passes a test
abbrev pub first_due : Thread → (Timer → Bool) → ℕ → List Setting → Option Timer
first_due t test clock settings = first_passing t (is_due_and clock test) settings

-- when the first timer of a thread that passes a test is due
abbrev pub next_due : Thread → (Timer → Bool) → List Setting → Option ℕ
next_due t test settings = option_map (λ (x : Timer). x.due) (first_passing t test settings)

-- whether a timer is due at the clock, and later than this time
abbrev pub is_due_after : ℕ → ℕ → Setting → Bool
is_due_after after clock s = nat_le (due_of s) clock && nat_lt after (due_of s)

-- whether the thread has such a timer
abbrev pub has_due : Thread → ℕ → ℕ → List Setting → Bool
has_due t after clock settings = list_any (λ s. (s.thread.0 == t.0) && is_due_after after clock s) settings

-- the periods began within the clock's bound
abbrev pub AreEarly : List Setting → Type 0
AreEarly settings = All (λ s. s.base < clock_limit) settings

-- each call of the closure answers what the test says of the timer
abbrev pub Computes : {F : Type 0} → Shared F (Bor Timer × Unit {0}) Bool → (Timer → Bool) → F → Type 0
Computes g test f = (x : Bor Timer) (answer : Bool) → g.post f (x, tt) answer → answer ≡ test x.now
