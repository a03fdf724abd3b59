-- The answers of a thread's calls on the clock and on timers.
use Rattle.std.specs.Prelude.{ℕ, ◌+◌, nat_lt, nat_le, Bool, true, false, ◌&&◌, length, is_none}
use Rattle.win_num.specs.declared.code.Code.TheVariants.{Full}
use Rattle.user_model.specs.declared.entry.Answer.{Answer}
use Rattle.user_model.specs.declared.entry.Answer.TheVariants.{Okay, Wait, Value}
use Rattle.user_model.specs.Past.{Past}
use Rattle.user_model.specs.Places.{clock}
use Rattle.user_model.specs.Windows.{is_live}
use Rattle.user_model.specs.Timers.{timer, timers_of}
use Rattle.user_model.specs.Refusals.{refuse, if_own, invalid_parameter}

-- the clock
abbrev pub clock_reply : Past → Answer
clock_reply past = Value (clock past)

-- a timer is set: one more, where its thread has fewer than 256, or anew
abbrev pub set_timer_reply : Past → ℕ → ℕ → ℕ → Answer
set_timer_reply past who w id = if_own past who w (refuse (is_none (timer past w id) && nat_le 256 (length (timers_of past who))) Full Okay)

-- a timer is taken back
abbrev pub kill_timer_reply : Past → ℕ → ℕ → ℕ → Answer
kill_timer_reply past who w id = refuse (is_live past w && is_none (timer past w id)) invalid_parameter (if_own past who w Okay)

-- okay at the time, else to wait
abbrev pub woken : Bool → Answer
woken true = Okay
woken false = Wait

-- a sleep up to a time, which is at most 4294967295 milliseconds away
abbrev pub sleep_until_reply : Past → ℕ → Answer
sleep_until_reply past time = refuse (nat_lt (clock past + 4294967295) time) invalid_parameter (woken (nat_le time (clock past)))
