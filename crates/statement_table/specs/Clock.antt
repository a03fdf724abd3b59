-- Statements of the clock and on timers, one row each.
use Rattle.std.specs.Prelude.{List, [], ◌∷◌, Option, Some, None}
use Rattle.call_table.specs.declared.calls.CallName.TheVariants as groups
use Rattle.call_table.specs.declared.clock.ClockCall.{ClockCall}
use Rattle.call_table.specs.declared.clock.ClockCall.TheVariants as names
use Rattle.script_tree.specs.declared.statement.CallStatement.{CallStatement}
use Rattle.script_tree.specs.declared.statement.CallStatement.TheVariants as calls
use Rattle.statement_table.specs.declared.part.Part.{Part}
use Rattle.statement_table.specs.declared.part.Part.TheVariants as parts
use Rattle.statement_table.specs.Parts.{operand_in}
use Rattle.statement_table.specs.Splits.{Split, split}

-- the call that such a statement makes, and its parts in their places; a statement of another group is none
abbrev pub split_clock : CallStatement → Option Split
split_clock (calls.SetTimer window id ms) = split (groups.Clock names.SetTimer) (parts.Operand window ∷ parts.Operand id ∷ parts.Operand ms ∷ [])
split_clock (calls.KillTimer window id) = split (groups.Clock names.KillTimer) (parts.Operand window ∷ parts.Operand id ∷ [])
split_clock calls.Clock = split (groups.Clock names.Clock) []
split_clock calls.Yield = split (groups.Clock names.Yield) []
split_clock c = None

-- the statement that makes this call, of the parts in their places; none makes the machine's own steps
abbrev pub made_clock : ClockCall → List Part → Option CallStatement
made_clock names.SetTimer ps = Some (calls.SetTimer (operand_in ps 0) (operand_in ps 1) (operand_in ps 2))
made_clock names.KillTimer ps = Some (calls.KillTimer (operand_in ps 0) (operand_in ps 1))
made_clock names.EndThread ps = None
made_clock names.Clock ps = Some calls.Clock
made_clock names.SleepUntil ps = None
made_clock names.Yield ps = Some calls.Yield
made_clock names.Tick ps = None
made_clock names.Advance ps = None
