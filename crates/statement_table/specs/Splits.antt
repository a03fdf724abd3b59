-- A statement taken apart.
use Rattle.std.specs.Prelude.{List, Option, Some}
use Rattle.call_table.specs.declared.calls.CallName.{CallName}
use Rattle.statement_table.specs.declared.part.Part.{Part}
use Rattle.statement_table.specs.declared.split.SplitStatement.{SplitStatement}

-- the call that a statement makes, and its parts in their places
pub record Split : Type 0 where
  pub name : CallName
  pub parts : List Part

-- a statement that makes this call, with these parts
abbrev pub split : CallName → List Part → Option Split
split name parts = Some (record { name = name; parts = parts })

-- a statement taken apart, read
abbrev pub read_split : SplitStatement → Split
read_split s = record { name = s.name; parts = s.parts.items }
