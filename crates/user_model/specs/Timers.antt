-- Timers, and the one that is due first.
use Rattle.std.specs.Prelude.{if◌then◌else◌, ℕ, ◌==◌, ◌+◌, nat_le, min, max, Bool, false, ◌&&◌, ◌||◌, List, [], ◌∷◌, filter, find, Option, Some, None, unwrap_or}
use Rattle.win_num.specs.declared.message.Filter.{Filter}
use Rattle.win_num.specs.declared.message.Msg.{Msg}
use Rattle.win_num.specs.Numbers.{passes_range}
use Rattle.win_num.specs.declared.names.TheConstants.{WM_TIMER}
use Rattle.user_model.specs.declared.call.Call.{Call}
use Rattle.user_model.specs.declared.call.Call.TheVariants.{SetTimer, KillTimer}
use Rattle.user_model.specs.declared.entry.Entry.{Entry}
use Rattle.user_model.specs.Past.{Past, last_of, standing}
use Rattle.user_model.specs.Places.{clock}
use Rattle.user_model.specs.Windows.{thread_of, drops_window}
use Rattle.user_model.specs.Filters.{passes_window}
use Rattle.user_model.specs.Retrievals.{removed_timer}

-- a timer: its window, its id, and its period in milliseconds
pub record WinTimer : Type 0 where
  pub hwnd : ℕ
  pub id : ℕ
  pub period : ℕ

-- whether it is the timer of this window with this id
abbrev pub is_timer : ℕ → ℕ → WinTimer → Bool
is_timer w id x = (x.hwnd == w) && (x.id == id)

-- the timer that a call sets; its period is at least 10 milliseconds, and at most 2147483647
abbrev pub timers_set : Call → List WinTimer
timers_set (SetTimer w id ms) = record { hwnd = w; id = id; period = min (max ms 10) 2147483647 } ∷ []
timers_set _ = []

-- whether the call sets the timer anew or takes it back
abbrev pub ends_timer : Call → WinTimer → Bool
ends_timer (SetTimer w id ms) x = is_timer w id x
ends_timer (KillTimer w id) x = is_timer w id x
ends_timer _ x = false

-- the timers that were set, in order, without those that were set anew, taken back or left by their window since
abbrev pub timers : Past → List WinTimer
timers past = standing (λ e before. timers_set e.call) (λ e before x. ends_timer e.call x || drops_window e before x.hwnd) past

-- the timer of a window with an id
abbrev pub timer : Past → ℕ → ℕ → Option WinTimer
timer past w id = find (is_timer w id) (timers past)

-- the timers of t's windows
abbrev pub timers_of : Past → ℕ → List WinTimer
timers_of past t = filter (λ x. thread_of past x.hwnd == t) (timers past)

-- whether the message is the timer's
abbrev pub is_message_of : ℕ → ℕ → Option Msg → Bool
is_message_of w id None = false
is_message_of w id (Some m) = (m.hwnd.0 == w) && (m.wparam == id)

-- whether the call sets the timer
abbrev pub sets : ℕ → ℕ → Call → Bool
sets w id (SetTimer v i ms) = (v == w) && (i == id)
sets w id _ = false

-- whether the timer's period begins anew with the entry: it sets the timer, or removes its message
abbrev pub restarts : ℕ → ℕ → Entry → Bool
restarts w id e = sets w id e.call || is_message_of w id (removed_timer e.answer e.call)

-- the time at which an entry lets the timer's period begin
abbrev pub base_told : ℕ → ℕ → Entry → Past → Option ℕ
base_told w id e before = if restarts w id e then Some (clock before) else None

-- the time at which the timer's period began last
abbrev pub base : Past → WinTimer → ℕ
base past x = unwrap_or (last_of (base_told x.hwnd x.id) past) 0

-- when the timer is due
abbrev pub due_time : Past → WinTimer → ℕ
due_time past x = base past x + x.period

-- whether that time has come
abbrev pub is_due : Past → WinTimer → Bool
is_due past x = nat_le (due_time past x) (clock past)

-- whether its message passes the filter
abbrev pub passes_timer : Past → Filter → WinTimer → Bool
passes_timer past f x = passes_range f.min f.max WM_TIMER && passes_window past f.hwnd x.hwnd

-- of a timer and one that there may be the one that is due first; of two at one time the one that was set first
abbrev pub sooner : Past → WinTimer → Option WinTimer → WinTimer
sooner past x None = x
sooner past x (Some y) = if nat_le (due_time past x) (due_time past y) then x else y

-- the one of a list that is due first
abbrev pub soonest_timer : Past → List WinTimer → Option WinTimer
soonest_timer past [] = None
soonest_timer past (x ∷ xs) = Some (sooner past x (soonest_timer past xs))

-- the timers of t that pass
abbrev pub passing_timers : Past → ℕ → Filter → List WinTimer
passing_timers past t f = filter (passes_timer past f) (timers_of past t)

-- the first due timer of t that passes
abbrev pub due : Past → ℕ → Filter → Option WinTimer
due past t f = soonest_timer past (filter (is_due past) (passing_timers past t f))
