-- What an entry does to the timers that are kept.
use Rattle.std.specs.Prelude.{◌≡◌, ℕ, ◌==◌, ◌||◌, ◌&&◌, if◌then◌else◌, Bool, false, not, List, [], ◌∷◌, ◌++◌, filter, IsTrue}
use Rattle.win_num.specs.declared.message.Msg.{Msg}
use Rattle.win_num.specs.declared.message.Thread.{Thread}
use Rattle.win_rows.specs.declared.window.Window.{Window}
use Rattle.win_rows.specs.Windows.{is_live}
use Rattle.win_tree.specs.Kin.{is_kin}
use Rattle.timer_source.specs.declared.setting.Setting.{Setting}
use Rattle.timer_source.specs.Settings.{has_no_room, restarted, setting_at, without}
use Rattle.user_model.specs.declared.call.Call.{Call}
use Rattle.user_model.specs.declared.call.Call.TheVariants.{SetTimer, KillTimer, Drop}
use Rattle.user_model.specs.declared.entry.Answer.{Answer}
use Rattle.user_model.specs.declared.entry.Answer.TheVariants.{Okay, Ended, Got}
use Rattle.user_model.specs.declared.entry.Origin.{Origin}
use Rattle.user_model.specs.declared.entry.Origin.TheVariants.{Posted, Quit, Input, Paint, Timer}
use Rattle.user_model.specs.Retrievals.{removes}

-- whether w is live, and goes with v
abbrev pub goes_with : List Window → ℕ → ℕ → Bool
goes_with ws v w = is_live ws w && is_kin ws v w

-- with the timer that a call sets at the clock, behind the others
abbrev pub set_by : Thread → ℕ → Call → List Setting → List Setting
set_by who time (SetTimer w id ms) old = without (record { 0 = w }) id old ++ setting_at who (record { 0 = w }) id ms time ∷ []
set_by who time _ old = old

-- the same where the call is answered by ok
abbrev pub added_timers : Thread → ℕ → Answer → Call → List Setting → List Setting
added_timers who time Okay call old = set_by who time call old
added_timers who time _ call old = old

-- without the timer that a call takes back, or those of the windows that it drops
abbrev pub kept_of : List Window → Call → List Setting → List Setting
kept_of ws (KillTimer w id) old = without (record { 0 = w }) id old
kept_of ws (Drop v) old = filter (λ s. not (goes_with ws v s.hwnd.0)) old
kept_of ws _ old = old

-- with the period of the timer begun anew whose message was handed out, where the call removes it
abbrev pub restarted_by : ℕ → Origin → Msg → Call → List Setting → List Setting
restarted_by time Timer m call old = if removes call then restarted m.hwnd m.wparam time old else old
restarted_by time Posted m call old = old
restarted_by time Quit m call old = old
restarted_by time Input m call old = old
restarted_by time Paint m call old = old

-- what an answer leaves of them
abbrev pub followed : List Window → Thread → ℕ → Answer → Call → List Setting → List Setting
followed ws who time Okay call old = kept_of ws call old
followed ws who time (Got origin n m) call old = restarted_by time origin m call old
followed ws who time Ended call old = filter (λ s. not (s.thread.0 == who.0)) old
followed ws who time _ call old = old

-- a timer is set of a live window, and there is room for it
abbrev pub FitsSetting : List Window → Thread → List Setting → Call → Type 0
FitsSetting ws who old (SetTimer w id ms) = IsTrue ((w == 0) || is_live ws w) × (has_no_room who (record { 0 = w }) id old ≡ false)
FitsSetting ws who old _ = Unit {0}

-- the same where the call is answered by ok
abbrev pub FitsAddedTimers : List Window → Thread → List Setting → Answer → Call → Type 0
FitsAddedTimers ws who old Okay call = FitsSetting ws who old call
FitsAddedTimers ws who old _ call = Unit {0}

-- a window whose timer is taken back, or that is dropped, is live
abbrev pub FitsCarrying : List Window → Call → Type 0
FitsCarrying ws (KillTimer w id) = IsTrue ((w == 0) || is_live ws w)
FitsCarrying ws (Drop v) = IsTrue ((v == 0) || is_live ws v)
FitsCarrying ws _ = Unit {0}

-- the same where the call is answered by ok
abbrev pub FitsFollowing : List Window → Answer → Call → Type 0
FitsFollowing ws Okay call = FitsCarrying ws call
FitsFollowing ws _ call = Unit {0}
