-- A call taken apart.
use Rattle.std.specs.Prelude.{List, Option, Some}
use Rattle.call_fields.specs.declared.value.Value.{Value}
use Rattle.call_table.specs.declared.calls.CallName.{CallName}
use Rattle.call_table.specs.declared.split.SplitCall.{SplitCall}

-- which call it is, and the values of its fields
pub record Split : Type 0 where
  pub name : CallName
  pub values : List Value

-- a call of this name with these values
abbrev pub split : CallName → List Value → Option Split
split name values = Some (record { name = name; values = values })

-- a call taken apart, read
abbrev pub read_split : SplitCall → Split
read_split s = record { name = s.name; values = s.values.items }
