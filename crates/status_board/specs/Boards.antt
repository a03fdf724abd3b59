-- What contracts see of a writer, a reader and a note.
use Rattle.std.specs.Prelude.{ℕ, List}
use Rattle.atomic_table.specs.Seated.{TableId}
use Rattle.status_board.specs.declared.shown.Shown.{Shown}

-- a writer: which board it is, the number of its owner's seat, and all that was published
pub record Writing : Type 0 where
  pub board : TableId
  pub owner : ℕ
  pub list : List Shown

-- a reader or a note: which board it is of, and what it knows of what was published
pub record Knowing : Type 0 where
  pub board : TableId
  pub list : List Shown
