-- What the lines of a program stand for.
use Rattle.std.specs.Borrow.{Bor}
use Rattle.std.specs.Prelude.{◌≡◌, ℕ, ◌-◌, List, [], ◌∷◌, ◌++◌, Some, drop, slice_get, unwrap_or}
use Rattle.script_tree.specs.declared.statement.Statement.{Statement, items-the_row-Statement}
use Rattle.script_tree.specs.declared.statement.Statement.TheVariants as tree
use Rattle.script_tree.specs.declared.operand.Test.{Test}
use Rattle.script_tree.specs.Tree.{Tree, ProcedureTree, body_of, procedure_of}
use Rattle.script_tree.specs.Pieces.{Piece, Lines}
use Rattle.script_proc.specs.declared.program.Line.{Line}
use Rattle.script_proc.specs.declared.program.Line.TheVariants.{Let, Compute, If, Else, While, End, Return, Call, Sleep, Create, Destroy, Compound, Default}
use Rattle.script_proc.specs.declared.program.Program.{Program}

-- a statement without a body
abbrev pub IsAlone : Statement → Type 0
IsAlone (tree.If' t k a) = ⊥
IsAlone (tree.IfElse' t k a j b) = ⊥
IsAlone (tree.While' t k a) = ⊥
IsAlone line = Unit {0}

-- the line says that statement, which has no body
abbrev pub Says : Line → Statement → Type 0
Says (Let x e) line = line ≡ tree.Let x e.now
Says (Compute x op e f) line = line ≡ tree.Compute x e.now op f.now
Says (Return e) line = line ≡ tree.Return e.now
Says (Call c) line = line ≡ tree.Call c.now
Says (Sleep e) line = line ≡ tree.Sleep e.now
Says (Create c) line = line ≡ tree.Create c.now
Says (Destroy e) line = line ≡ tree.Destroy e.now
Says (Compound c) line = line ≡ tree.Compound c.now
Says Default line = line ≡ tree.Default
Says border line = ⊥

-- a line that begins a compound or a `sleep`
abbrev pub IsCompound : Line → Type 0
IsCompound (Sleep e) = Unit {0}
IsCompound (Create c) = Unit {0}
IsCompound (Destroy e) = Unit {0}
IsCompound (Compound c) = Unit {0}
IsCompound Default = Unit {0}
IsCompound line = ⊥

-- a line that puts items above the others
abbrev pub IsSlow : Line → Type 0
IsSlow (While t passed) = Unit {0}
IsSlow (Return e) = Unit {0}
IsSlow line = IsCompound line

-- these lines, the next one first, stand for those statements that are left to do, block by block, the innermost first
pub data Stands : List Line → List Piece → Type 0 where
  -- a statement without a body
  alone : {line : Line} {rest : List Line} {statement : Statement} {more : List Statement} {left : List Piece} → Says line statement → Stands rest (Lines more ∷ left) → Stands (line ∷ rest) (Lines (statement ∷ more) ∷ left)
  -- an `if`: its body comes next, and what is behind it stands behind as many lines as are passed over
  branch : {t : Bor Test} {passed : ℕ} {k : _} {a : _} {rest : List Line} {more : List Statement} {left : List Piece} → Stands rest (Lines (items-the_row-Statement _ a) ∷ Lines more ∷ left) → Stands (drop passed rest) (Lines more ∷ left) → Stands (If t passed ∷ rest) (Lines (tree.If' t.now k a ∷ more) ∷ left)
  -- an `if` with an `else`: its other body stands behind as many lines as are passed over
  branches : {t : Bor Test} {passed : ℕ} {k : _} {a : _} {j : _} {b : _} {rest : List Line} {more : List Statement} {left : List Piece} → Stands rest (Lines (items-the_row-Statement _ a) ∷ Lines more ∷ left) → Stands (drop passed rest) (Lines (items-the_row-Statement _ b) ∷ Lines more ∷ left) → Stands (If t passed ∷ rest) (Lines (tree.IfElse' t.now k a j b ∷ more) ∷ left)
  -- a `while`: a pass comes next, and what is behind it stands behind as many lines as are passed over
  loop : {t : Bor Test} {passed : ℕ} {k : _} {a : _} {rest : List Line} {more : List Statement} {left : List Piece} → Stands rest (Lines (items-the_row-Statement _ a) ∷ []) → Stands (drop passed rest) (Lines more ∷ left) → Stands (While t passed ∷ rest) (Lines (tree.While' t.now k a ∷ more) ∷ left)
  -- at the end of a branch what is behind its `if` comes next
  out : {lines : List Line} {left : List Piece} → Stands lines left → Stands lines (Lines [] ∷ left)
  -- at the `else` what is behind the `if` stands behind as many lines as are passed over
  over_else : {passed : ℕ} {rest : List Line} {left : List Piece} → Stands (drop passed rest) left → Stands (Else passed ∷ rest) (Lines [] ∷ left)
  -- the end of a pass or of a body
  end : {rest : List Line} → Stands (End ∷ rest) (Lines [] ∷ [])

-- the code stands for the statements, whatever comes behind both
pub record Codes (code : List Line) (statements : List Statement) : Type 0 where
  pub by : (rest : List Line) (more : List Statement) (left : List Piece) → Stands rest (Lines more ∷ left) → Stands (code ++ rest) (Lines (statements ++ more) ∷ left)

-- the code of the statements was put behind the lines
abbrev pub IsPut : List Statement → List Line → List Line → Type 0
IsPut statements old new = (code : List Line) × (new ≡ old ++ code) × Codes code statements

-- lines were put behind the lines
abbrev pub Grows : List Line → List Line → Type 0
Grows old new = (code : List Line) × (new ≡ old ++ code)

-- a body begins at a place of the lines, whatever comes behind them
abbrev pub StartsAt : List Line → ℕ → List Statement → Type 0
StartsAt lines place statements = (more : List Line) → Stands (drop place (lines ++ more)) (Lines statements ∷ [])

-- the statements of a procedure
abbrev pub procedure_body : ProcedureTree → List Statement
procedure_body p = p.body

-- those of a thread are its body
abbrev pub itself : List Statement → List Statement
itself body = body

-- the body of each begins at its place
abbrev pub EachStarts : {A : Type 0} → (A → List Statement) → List Line → List ℕ → List A → Type 0
EachStarts body lines [] [] = Unit {0}
EachStarts body lines (place ∷ places) (x ∷ xs) = StartsAt lines place (body x) × EachStarts body lines places xs
EachStarts body lines [] (x ∷ xs) = ⊥
EachStarts body lines (place ∷ places) [] = ⊥

-- the lines from a place on
abbrev pub lines_at : Program → ℕ → List Line
lines_at p at = drop at p.lines.items

-- there is such a line at the place
abbrev pub IsSlowAt : Program → ℕ → Type 0
IsSlowAt p at = (line : Line) × (slice_get p.lines.items at ≡ Some line) × IsSlow line

-- the program has the script's budget, and each body of the script begins at its place
pub record IsProgramOf (s : Tree) (p : Program) : Type 0 where
  pub budget : p.budget ≡ s.budget
  pub procedures : (number : ℕ) → Stands (lines_at p (unwrap_or (slice_get p.procedures.items number) 0)) (Lines (procedure_of s number) ∷ [])
  pub threads : (t : ℕ) → Stands (lines_at p (unwrap_or (slice_get p.threads.items (t - 1)) 0)) (Lines (body_of s t) ∷ [])
