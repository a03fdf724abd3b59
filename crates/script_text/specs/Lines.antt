-- A tree as lines: one for each statement, and one more for each `else` and `end`.
use Rattle.std.specs.Prelude.{ℕ, ◌+◌, List, [], ◌∷◌, ◌++◌, map}
use Rattle.std.specs.List.{flat_map}
use Rattle.script_tree.specs.declared.statement.Statement.{Statement, Row_of-Statement, end_of-Statement, more_of-Statement}
use Rattle.script_tree.specs.declared.statement.Statement.TheVariants.{Let, Compute, If', IfElse', While', Return, Call, Sleep, Create, Destroy, Compound, Default}
use Rattle.script_tree.specs.Tree.{ProcedureTree, Tree}
use Rattle.script_lines.specs.declared.line.Line.{Line}
use Rattle.script_lines.specs.declared.line.Line.TheVariants as lines

abbrev mutual
  -- the lines of a statement
  pub statement_lines : Statement → List Line
  statement_lines (Let v a) = lines.Let v a ∷ []
  statement_lines (Compute v a op b) = lines.Compute v a op b ∷ []
  statement_lines (If' t k a) = lines.If t ∷ (row_lines a ++ lines.End ∷ [])
  statement_lines (IfElse' t k a j b) = lines.If t ∷ (row_lines a ++ lines.Else ∷ (row_lines b ++ lines.End ∷ []))
  statement_lines (While' t k a) = lines.While t ∷ (row_lines a ++ lines.End ∷ [])
  statement_lines (Return a) = lines.Return a ∷ []
  statement_lines (Call c) = lines.Call c ∷ []
  statement_lines (Sleep a) = lines.Sleep a ∷ []
  statement_lines (Create c) = lines.Create c ∷ []
  statement_lines (Destroy a) = lines.Destroy a ∷ []
  statement_lines (Compound c) = lines.Compound c ∷ []
  statement_lines Default = lines.Default ∷ []

  -- the lines of the statements inside of one
  pub row_lines : {m : _} → Row_of-Statement m → List Line
  row_lines end_of-Statement = []
  row_lines (more_of-Statement s rest) = statement_lines s ++ row_lines rest

-- the statement has no body
abbrev pub IsAlone : Statement → Type 0
IsAlone (If' t k a) = ⊥
IsAlone (IfElse' t k a j b) = ⊥
IsAlone (While' t k a) = ⊥
IsAlone s = Unit {0}

-- the lines of statements
abbrev pub body_lines : List Statement → List Line
body_lines = flat_map statement_lines

-- the lines of a thread
abbrev pub thread_lines : List Statement → List Line
thread_lines body = lines.Thread ∷ (body_lines body ++ lines.End ∷ [])

-- the lines of the procedure of this number
abbrev pub procedure_lines : ℕ → List Statement → List Line
procedure_lines k body = lines.Procedure k ∷ (body_lines body ++ lines.End ∷ [])

-- the lines of procedures that are numbered from this number on
abbrev pub numbered_lines : ℕ → List (List Statement) → List Line
numbered_lines k [] = []
numbered_lines k (body ∷ bodies) = procedure_lines k body ++ numbered_lines (k + 1) bodies

-- the lines of all procedures, and then of all threads
abbrev pub code_lines : List (List Statement) → List (List Statement) → List Line
code_lines procedures threads = numbered_lines 0 procedures ++ flat_map thread_lines threads

-- the procedure of this name and body
abbrev pub procedure_of : List ℕ × List Statement → ProcedureTree
procedure_of (name, body) = record { name = name; body = body }

-- the names of procedures
abbrev pub names_of : List ProcedureTree → List (List ℕ)
names_of = map (λ p. p.name)

-- the statements of procedures
abbrev pub bodies_of : List ProcedureTree → List (List Statement)
bodies_of = map (λ p. p.body)

-- the lines behind the head
unfoldable pub script_lines : Tree → List Line
script_lines s = code_lines (bodies_of s.procedures) s.threads
