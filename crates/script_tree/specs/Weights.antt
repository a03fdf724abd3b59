-- How many steps there are at most before the next call.
use Rattle.std.specs.Prelude.{ℕ, ◌+◌, ◌==◌, max, List, [], ◌∷◌, if◌then◌else◌}
use Rattle.script_tree.specs.declared.statement.Statement.{Statement, Row_of-Statement, end_of-Statement, more_of-Statement}
use Rattle.script_tree.specs.declared.statement.Statement.TheVariants.{If', IfElse', While'}
use Rattle.script_tree.specs.Tree.{Tree, procedure_of}
use Rattle.script_tree.specs.Pieces.{Piece, Lines, One, PassEnd, Making, Again, Giving, Settle, Quiet, Sleeping, Running, Leaving, Leaves, Left, Restore, Feed, State, Going, Returning, Given}

abbrev mutual
  -- the weight of a statement
  pub weight : Statement → ℕ
  weight (If' t k a) = 2 + row_weight a
  weight (IfElse' t k a j b) = 2 + row_weight a + row_weight b
  weight (While' t k body) = 2 + row_weight body
  weight _ = 3

  -- the weight of the statements inside of one
  pub row_weight : {n : _} → Row_of-Statement n → ℕ
  row_weight end_of-Statement = 0
  row_weight (more_of-Statement line rest) = 2 + weight line + row_weight rest

-- the weight of lines
abbrev pub lines_weight : List Statement → ℕ
lines_weight [] = 0
lines_weight (line ∷ lines) = 2 + weight line + lines_weight lines

-- the steps of pieces, by what the first of them gets
pub record Cost : Type 0 where
  pub going : ℕ
  pub returning : ℕ
  pub given : ℕ

abbrev pub cost_of : ℕ → ℕ → ℕ → Cost
cost_of g r a = record { going = g; returning = r; given = a }

-- the cost with one piece more
abbrev pub cost : Tree → ℕ → Piece → Cost → Cost
cost s n (Lines lines) c = cost_of (1 + lines_weight lines + max c.going c.returning) (1 + c.returning) (1 + c.given)
cost s n (One line) c = cost_of (1 + weight line + max c.going c.returning) (1 + c.returning) (1 + c.given)
cost s n (PassEnd loop began) c = cost_of (if n == began then 1 else 2 + weight loop + max c.going c.returning) (1 + c.returning) (1 + c.given)
cost s n (Making call) c = cost_of 0 0 (1 + c.given)
cost s n (Again call) c = cost_of (1 + c.going) 1 (1 + c.given)
cost s n (Giving a) c = cost_of (1 + c.given) (1 + c.given) (1 + c.given)
cost s n (Settle call) c = cost_of (1 + c.going) (1 + c.returning) (1 + c.going)
cost s n Quiet c = cost_of (1 + c.going) (1 + c.returning) (1 + c.going)
cost s n (Sleeping ms) c = cost_of (1 + c.going) (1 + c.returning) (1 + c.going)
cost s n (Running run) c = cost_of (10 + lines_weight (procedure_of s run.procedure)) (1 + c.returning) (1 + c.given)
cost s n (Leaving run) c = cost_of 6 1 (1 + c.given)
cost s n (Leaves frame x) c = cost_of 0 (1 + c.returning) (1 + c.given)
cost s n (Left x) c = cost_of (1 + c.going) (1 + c.returning) (1 + c.returning)
cost s n (Restore p) c = cost_of (1 + c.going) (1 + c.returning) (1 + c.given)
cost s n (Feed q) c = cost_of (1 + c.going) (1 + c.returning) (1 + c.given)

-- the cost of pieces
abbrev pub costs : Tree → ℕ → List Piece → Cost
costs s n [] = cost_of 0 0 0
costs s n (p ∷ ps) = cost s n p (costs s n ps)

-- at most so many steps before the next call
abbrev pub steps_left : Tree → ℕ → List Piece → State → ℕ
steps_left s n ps (Going v) = (costs s n ps).going
steps_left s n ps (Returning v x) = (costs s n ps).returning
steps_left s n ps (Given v a x) = (costs s n ps).given
