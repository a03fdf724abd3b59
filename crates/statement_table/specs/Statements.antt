-- The statements that make one call: each group has its rows in a file of its own.
use Rattle.std.specs.Prelude.{List, [], ◌∷◌, Option, Some, None}
use Rattle.std.specs.Option.{option_or}
use Rattle.call_table.specs.declared.calls.CallName.{CallName}
use Rattle.call_table.specs.declared.calls.CallName.TheVariants as groups
use Rattle.call_table.specs.declared.clock.ClockCall.TheVariants as clock
use Rattle.script_tree.specs.declared.statement.CallStatement.{CallStatement}
use Rattle.statement_table.specs.declared.part.Part.{Part}
use Rattle.statement_table.specs.Splits.{Split}
use Rattle.statement_table.specs.Delivery.{split_delivery, made_delivery}
use Rattle.statement_table.specs.Sends.{split_send, made_send}
use Rattle.statement_table.specs.Replies.{split_reply, made_reply}
use Rattle.statement_table.specs.Registrations.{split_registration, made_registration}
use Rattle.statement_table.specs.Lookups.{split_lookup, made_lookup}
use Rattle.statement_table.specs.Input.{split_input, made_input}
use Rattle.statement_table.specs.Drawing.{split_drawing, made_drawing}
use Rattle.statement_table.specs.Clock.{split_clock, made_clock}

-- the first that is there
abbrev pub first_found : Option Split → List (Option Split) → Option Split
first_found o [] = o
first_found o (p ∷ ps) = first_found (option_or o p) ps

-- a statement taken apart by the group that has it; each statement is of one
abbrev pub found_split : CallStatement → Option Split
found_split c = first_found (split_delivery c) (split_send c ∷ split_reply c ∷ split_registration c ∷ split_lookup c ∷ split_input c ∷ split_drawing c ∷ split_clock c ∷ [])

abbrev pub split_or_none : Option Split → Split
split_or_none (Some s) = s
split_or_none None = record { name = groups.Clock clock.Clock; parts = [] }

-- the call that a statement makes
abbrev pub statement_name : CallStatement → CallName
statement_name c = (split_or_none (found_split c)).name

-- its parts in their places
abbrev pub statement_parts : CallStatement → List Part
statement_parts c = (split_or_none (found_split c)).parts

-- the statement that makes this call, of the parts in their places; none makes a call on a window by itself
abbrev pub made_statement : CallName → List Part → Option CallStatement
made_statement (groups.Delivery n) ps = made_delivery n ps
made_statement (groups.Send n) ps = made_send n ps
made_statement (groups.Reply n) ps = made_reply n ps
made_statement (groups.Registration n) ps = made_registration n ps
made_statement (groups.Window n) ps = None
made_statement (groups.Lookup n) ps = made_lookup n ps
made_statement (groups.Input n) ps = made_input n ps
made_statement (groups.Drawing n) ps = made_drawing n ps
made_statement (groups.Clock n) ps = made_clock n ps
