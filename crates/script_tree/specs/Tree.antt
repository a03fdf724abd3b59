-- What a script says.
use Rattle.std.specs.Prelude.{ℕ, ◌-◌, List, [], slice_index_or, slice_get, Option, Some, None}
use Rattle.script_tree.specs.declared.statement.Statement.{Statement}

-- a procedure: its name, and its statements
pub record ProcedureTree : Type 0 where
  pub name : List ℕ
  pub body : List Statement

-- the screen in pixels, how many entries a thread may make, the order list, the names, the procedures, and the statements of each thread
pub record Tree : Type 0 where
  pub width : ℕ
  pub height : ℕ
  pub budget : ℕ
  pub order : List ℕ
  pub names : List (List ℕ)
  pub procedures : List ProcedureTree
  pub threads : List (List Statement)

-- the statements of thread t, from thread 1 on
abbrev pub body_of : Tree → ℕ → List Statement
body_of s t = slice_index_or s.threads (t - 1) []

-- the statements of a procedure
abbrev pub statements_of : Option ProcedureTree → List Statement
statements_of None = []
statements_of (Some p) = p.body

-- the statements of procedure p, from procedure 0 on; none where there is no procedure of that number
abbrev pub procedure_of : Tree → ℕ → List Statement
procedure_of s p = statements_of (slice_get s.procedures p)
