-- Calls of the clock, on timers, and the end of a thread, one row each.
use Rattle.std.specs.Prelude.{List, [], ◌∷◌, codes, Option, None}
use Rattle.user_model.specs.declared.call.Call.{Call}
use Rattle.user_model.specs.declared.call.Call.TheVariants as calls
use Rattle.call_fields.specs.declared.form.Field.TheVariants as fields
use Rattle.call_fields.specs.declared.value.Value.{Value}
use Rattle.call_fields.specs.declared.value.Value.TheVariants as values
use Rattle.call_fields.specs.Forms.{Row, row}
use Rattle.call_fields.specs.Values.{number_at}
use Rattle.call_table.specs.declared.calls.CallName.{CallName}
use Rattle.call_table.specs.declared.calls.CallName.TheVariants as groups
use Rattle.call_table.specs.declared.clock.ClockCall.{ClockCall}
use Rattle.call_table.specs.declared.clock.ClockCall.TheVariants as names
use Rattle.call_table.specs.Splits.{Split, split}

-- the word of each, and the kinds of its fields
abbrev pub clock_row : ClockCall → Row
clock_row names.SetTimer = row (codes "set_timer") (fields.Number ∷ fields.Number ∷ fields.Number ∷ [])
clock_row names.KillTimer = row (codes "kill_timer") (fields.Number ∷ fields.Number ∷ [])
clock_row names.EndThread = row (codes "end_thread") []
clock_row names.Clock = row (codes "clock") []
clock_row names.SleepUntil = row (codes "sleep_until") (fields.Number ∷ [])
clock_row names.Yield = row (codes "yield") []
clock_row names.Tick = row (codes "tick") (fields.Number ∷ [])
clock_row names.Advance = row (codes "advance") []

-- all of them
abbrev pub clock_calls : List CallName
clock_calls = groups.Clock names.SetTimer ∷ groups.Clock names.KillTimer ∷ groups.Clock names.EndThread ∷ groups.Clock names.Clock ∷ groups.Clock names.SleepUntil ∷ groups.Clock names.Yield ∷ groups.Clock names.Tick ∷ groups.Clock names.Advance ∷ []

-- such a call taken apart; a call of another group is not
abbrev pub split_clock : Call → Option Split
split_clock (calls.SetTimer window id ms) = split (groups.Clock names.SetTimer) (values.Number window ∷ values.Number id ∷ values.Number ms ∷ [])
split_clock (calls.KillTimer window id) = split (groups.Clock names.KillTimer) (values.Number window ∷ values.Number id ∷ [])
split_clock calls.EndThread = split (groups.Clock names.EndThread) []
split_clock calls.Clock = split (groups.Clock names.Clock) []
split_clock (calls.SleepUntil time) = split (groups.Clock names.SleepUntil) (values.Number time ∷ [])
split_clock calls.Yield = split (groups.Clock names.Yield) []
split_clock (calls.Tick ms) = split (groups.Clock names.Tick) (values.Number ms ∷ [])
split_clock calls.Advance = split (groups.Clock names.Advance) []
split_clock c = None

-- the call of this name, of the values at its places
abbrev pub made_clock : ClockCall → List Value → Call
made_clock names.SetTimer vs = calls.SetTimer (number_at vs 0) (number_at vs 1) (number_at vs 2)
made_clock names.KillTimer vs = calls.KillTimer (number_at vs 0) (number_at vs 1)
made_clock names.EndThread vs = calls.EndThread
made_clock names.Clock vs = calls.Clock
made_clock names.SleepUntil vs = calls.SleepUntil (number_at vs 0)
made_clock names.Yield vs = calls.Yield
made_clock names.Tick vs = calls.Tick (number_at vs 0)
made_clock names.Advance vs = calls.Advance
