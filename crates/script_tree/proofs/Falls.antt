-- Each step leaves fewer steps before the next call.
use Rattle.std.proofs.Common.{◌≡◌, ℕ, ◌+◌, ◌<◌, ◌≤◌, Bool, true, false, List, [], ◌∷◌, ◌++◌, refl, ap, subst, arith, eq-eqb}
use Rattle.std.specs.Prelude.{max, ◌==◌, if◌then◌else◌}
use Rattle.user_model.specs.declared.entry.Answer.{Answer}
use Rattle.user_model.specs.declared.entry.Answer.TheVariants.{Refused}
use Rattle.user_model.specs.declared.call.Call.TheVariants.{Doom, Yield}
use Rattle.script_tree.specs.declared.statement.Statement.{Statement, Row_of-Statement, end_of-Statement, more_of-Statement, items-the_row-Statement}
use Rattle.script_tree.specs.declared.statement.Statement.TheVariants.{Let, Compute, If', IfElse', While', Return, Call as CallOf, Sleep, Create, Destroy, Compound as CompoundOf, Default as DefaultOf}
use Rattle.script_tree.specs.declared.frame.Lead.{Lead}
use Rattle.script_tree.specs.declared.frame.Lead.TheVariants.{Calls, Runs, Ends}
use Rattle.script_tree.specs.declared.variables.Variables.{Variables}
use Rattle.script_tree.specs.Tree.{Tree}
use Rattle.script_tree.specs.Values.{holds}
use Rattle.script_tree.specs.Compounds.{default_result, compound_after}
use Rattle.script_tree.specs.Pieces.{Piece, Lines, One, PassEnd, Making, Settle, Quiet, Sleeping, Running, Leaving, Leaves, Left, Feed, State, Going, Returning, Given, Step, Becomes, Asks}
use Rattle.script_tree.specs.Steps.{step, statement, begins, returns_to, takes, goes_on, sleeps, is_callback}
use Rattle.script_tree.proofs.Defaults.{default_either}
use Rattle.script_tree.specs.Weights.{weight, row_weight, lines_weight, costs, steps_left}

row_lines : {n : _} (row : Row_of-Statement n) → lines_weight (items-the_row-Statement _ row) ≡ row_weight row
row_lines end_of-Statement = refl
row_lines (more_of-Statement line rest) = ap (λ k. 2 + weight line + k) (row_lines rest)

-- a step that leaves fewer than so many
abbrev Falls : Tree → ℕ → List Piece → ℕ → Step → Type 0
Falls s n left bound (Becomes ps st) = steps_left s n (ps ++ left) st < bound
Falls s n left bound (Asks call) = Unit {0}

module _ (s : Tree) (n : ℕ) (left : List Piece) where
  either : (bound : ℕ) (b : Bool) (x y : Step) → Falls s n left bound x → Falls s n left bound y → Falls s n left bound (if b then x else y)
  either bound true x y f g = f
  either bound false x y f g = g

  branch_falls : (b : Bool) (xs ys : List Statement) (k : ℕ) → lines_weight xs + lines_weight ys ≤ k → 1 + lines_weight (if b then xs else ys) + max (costs s n left).going (costs s n left).returning < 3 + k + max (costs s n left).going (costs s n left).returning
  branch_falls true xs ys k h = omega arith
  branch_falls false xs ys k h = omega arith

  pass_falls : (b : Bool) (lines body k g r : ℕ) → b ≡ true → lines ≡ body → 1 + lines + max (if b then 1 else k) (1 + r) < 1 + (2 + body) + max g r
  pass_falls true lines body k g r e f = omega arith
  pass_falls false lines body k g r e f = absurd cc

  then_falls : (lines body m : ℕ) → lines ≡ body → 1 + lines + m < 1 + (2 + body) + m
  then_falls lines body m f = omega arith

  statement_falls : (line : Statement) (v : Variables) → Falls s n left (steps_left s n (One line ∷ left) (Going v)) (statement line v n)
  statement_falls (Let x e) v = omega arith
  statement_falls (Compute x e op f) v = omega arith
  statement_falls (If' t k a) v =
      either _ (holds t v) _ _ (then_falls _ _ (max (costs s n left).going (costs s n left).returning) (row_lines a)) (omega arith)
  statement_falls (IfElse' t k a j b) v =
      let e : lines_weight (items-the_row-Statement _ a) + lines_weight (items-the_row-Statement _ b) ≤ row_weight a + row_weight b = omega (arith, row_lines a, row_lines b) in
      let f = branch_falls (holds t v) (items-the_row-Statement _ a) (items-the_row-Statement _ b) (row_weight a + row_weight b) e in
      omega (arith, f)
  statement_falls (While' t k body) v =
      either _ (holds t v) _ _ (pass_falls (n == n) _ _ _ (costs s n left).going (costs s n left).returning (eq-eqb n n refl) (row_lines body)) (omega arith)
  statement_falls (Return e) v = omega arith
  statement_falls (CallOf ask) v = omega arith
  statement_falls (Sleep e) v = omega arith
  statement_falls (Create c) v = omega arith
  statement_falls (Destroy e) v = omega arith
  statement_falls (CompoundOf c) v = omega arith
  statement_falls DefaultOf v = default_either (λ qs. Falls s n left (steps_left s n (One DefaultOf ∷ left) (Going v)) (Becomes qs (Going v))) v.parameters (Settle (Doom v.parameters.hwnd) ∷ []) (λ b e. omega arith) (λ e. omega arith)

  turn_falls : (b : Bool) (loop : Statement) (v : Variables) → Falls s n left (if b then 1 else 2 + weight loop + max (costs s n left).going (costs s n left).returning) (if b then Becomes (Making Yield ∷ Quiet ∷ One loop ∷ []) (Going v) else Becomes (One loop ∷ []) (Going v))
  turn_falls true loop v = omega arith
  turn_falls false loop v = omega arith

  compound_falls : (v : Variables) (next : Lead) → Falls s n left (1 + (costs s n left).given) (goes_on v next)
  compound_falls v (Calls call q) = omega arith
  compound_falls v (Runs b q) = omega arith
  compound_falls v (Ends a) = omega arith

  sleep_falls : (ms : ℕ) (v : Variables) (a : Answer) (x : ℕ) → Falls s n left (1 + (costs s n left).going) (sleeps ms v a x)
  sleep_falls ms v (Refused code) x = omega arith
  sleep_falls ms v _ x = omega arith

  begins_falls : (p : Piece) (v : Variables) → Falls s n left (steps_left s n (p ∷ left) (Going v)) (begins s p v n)
  begins_falls (Lines []) v = omega arith
  begins_falls (Lines (line ∷ lines)) v = omega arith
  begins_falls (One line) v = statement_falls line v
  begins_falls (PassEnd loop began) v = turn_falls (n == began) loop v
  begins_falls (Making call) v = tt
  begins_falls (Running run) v = omega arith
  begins_falls (Leaving run) v = either _ (is_callback run.frame) _ _ (omega arith) (default_either (λ qs. Falls s n left 6 (Becomes qs (Going v))) run.parameters (Left (default_result run.parameters) ∷ Leaving run ∷ []) (λ b e. omega arith) (λ e. omega arith))
  begins_falls (Leaves frame x) v = tt
  begins_falls p v = omega arith

  returns_falls : (p : Piece) (v : Variables) (x : ℕ) → Falls s n left (steps_left s n (p ∷ left) (Returning v x)) (returns_to p v x)
  returns_falls (Making call) v x = tt
  returns_falls p v x = omega arith

  takes_falls : (p : Piece) (v : Variables) (a : Answer) (x : ℕ) → Falls s n left (steps_left s n (p ∷ left) (Given v a x)) (takes p v a x)
  takes_falls (Sleeping ms) v a x = sleep_falls ms _ a x
  takes_falls (Feed q) v a x = compound_falls v (compound_after q a x)
  takes_falls p v a x = omega arith

  step_falls : (p : Piece) (st : State) → Falls s n left (steps_left s n (p ∷ left) st) (step s p st n)
  step_falls p (Going v) = begins_falls p v
  step_falls p (Returning v x) = returns_falls p v x
  step_falls p (Given v a x) = takes_falls p v a x

  -- each step leaves fewer steps
  pub falls : (p : Piece) (st : State) (ps : List Piece) (st' : State) → step s p st n ≡ Becomes ps st' → steps_left s n (ps ++ left) st' < steps_left s n (p ∷ left) st
  falls p st ps st' e = subst (λ x. Falls s n left (steps_left s n (p ∷ left) st) x) e (step_falls p st)
