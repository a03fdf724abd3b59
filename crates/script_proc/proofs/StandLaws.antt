-- What the lines that come next say of the pieces that they stand for.
use Rattle.std.proofs.Common.{◌≡◌, ℕ, zero, suc, ◌+◌, ◌<◌, ◌≤◌, min, Bool, true, false, List, [], ◌∷◌, ◌++◌, length, drop, Some, None, refl, sym, ap, ◌∙◌, arith, add-one, drop-drop}
use Rattle.std.specs.Prelude.{slice_get, if◌then◌else◌}
use Rattle.std.specs.Borrow.{Bor}
use Rattle.std.proofs.lemmas.List.{drop_all}
use Rattle.script_tree.specs.declared.operand.Letter.{Letter}
use Rattle.script_tree.specs.declared.operand.Operand.{Operand}
use Rattle.script_tree.specs.declared.operand.Operator.{Operator}
use Rattle.script_tree.specs.declared.operand.Test.{Test}
use Rattle.script_tree.specs.declared.statement.CallStatement.{CallStatement}
use Rattle.script_tree.specs.declared.statement.Statement.{Statement, items-the_row-Statement}
use Rattle.script_tree.specs.declared.statement.Statement.TheVariants as tree
use Rattle.script_tree.specs.declared.variables.Variables.{Variables}
use Rattle.script_tree.specs.Tree.{Tree}
use Rattle.script_tree.specs.Values.{holds}
use Rattle.script_tree.specs.Pieces.{Piece, Lines, One, State, Going, Step, Becomes}
use Rattle.script_tree.specs.Steps.{step, passes, statement}
use Rattle.script_tree.specs.Traces.{silent}
use Rattle.script_tree.specs.Weights.{weight}
use Rattle.script_proc.specs.declared.program.Line.{Line}
use Rattle.script_proc.specs.declared.program.Line.TheVariants.{Let, Compute, If, Else, While, End, Return, Call, Sleep, Create, Destroy, Compound, Default}
use Rattle.script_proc.specs.Programs.{Says, IsCompound, IsSlow, Stands, alone, branch, branches, loop, out, over_else, end}
use Rattle.script_proc.specs.Items.{Keeps}

-- the list from a place on is the element there and the list behind it
drop_suc : {A : Type 0} (xs : List A) (i : ℕ) (x : A) → slice_get xs i ≡ Some x → drop i xs ≡ x ∷ drop (suc i) xs
drop_suc [] i x h = absurd cc
drop_suc (y ∷ xs) zero x h = let e : y ≡ x = cc in ap (λ z. z ∷ xs) e
drop_suc (y ∷ xs) (suc i) x h = drop_suc xs i x h

pub drop_here : {A : Type 0} (xs : List A) (i : ℕ) (x : A) → slice_get xs i ≡ Some x → drop i xs ≡ x ∷ drop (i + 1) xs
drop_here xs i x h = drop_suc xs i x h ∙ ap (λ k. x ∷ drop k xs) (sym (add-one i))

pub drop_past : {A : Type 0} (xs : List A) (i : ℕ) → slice_get xs i ≡ None → drop i xs ≡ []
drop_past [] zero h = refl
drop_past [] (suc i) h = refl
drop_past (y ∷ xs) zero h = absurd cc
drop_past (y ∷ xs) (suc i) h = drop_past xs i h

pub within : {A : Type 0} (xs : List A) (i : ℕ) (x : A) → slice_get xs i ≡ Some x → i < length xs
within [] i x h = absurd cc
within (y ∷ xs) zero x h = omega arith
within (y ∷ xs) (suc i) x h = omega (arith, within xs i x h)

drop_most : {A : Type 0} (xs : List A) (k most : ℕ) → length xs ≤ most → drop (min k most) xs ≡ drop k xs
drop_most [] k most h = drop_all (min k most) [] (omega arith) ∙ sym (drop_all k [] (omega arith))
drop_most (y ∷ xs) zero most h = let on : min zero most ≡ zero = omega arith in ap (λ k. drop k (y ∷ xs)) on
drop_most (y ∷ xs) (suc k) zero h = absurd (omega (arith, h))
drop_most (y ∷ xs) (suc k) (suc most) h = let on : min (suc k) (suc most) ≡ suc (min k most) = omega arith in ap (λ k. drop k (y ∷ xs)) on ∙ drop_most xs k most (omega (arith, h))

-- a place further on, which is the greatest number at most
pub drop_behind : {A : Type 0} (xs : List A) (at passed most : ℕ) → length xs ≤ most → drop (min (at + 1 + passed) most) xs ≡ drop passed (drop (at + 1) xs)
drop_behind xs at passed most h = drop_most xs (at + 1 + passed) most h ∙ sym (drop-drop passed (at + 1) xs)

-- a line that is no border of a block
abbrev pub IsSimple : Line → Type 0
IsSimple (If t k) = ⊥
IsSimple (Else k) = ⊥
IsSimple (While t k) = ⊥
IsSimple End = ⊥
IsSimple line = Unit {0}

-- a line that isn't one of the others puts items above the others
pub is_slow : (line : Line) → ((t : Bor Test) (k : ℕ) → line ≡ If t k → ⊥) → ((k : ℕ) → line ≡ Else k → ⊥) → (line ≡ End → ⊥) → ((c : Bor CallStatement) → line ≡ Call c → ⊥) → ((x : Letter) (e : Bor Operand) → line ≡ Let x e → ⊥) → ((x : Letter) (op : Operator) (e f : Bor Operand) → line ≡ Compute x op e f → ⊥) → IsSlow line
is_slow (Let x e) a b c d f g = f x e refl
is_slow (Compute x op e y) a b c d f g = g x op e y refl
is_slow (If t k) a b c d f g = a t k refl
is_slow (Else k) a b c d f g = b k refl
is_slow End a b c d f g = c refl
is_slow (Call k) a b c d f g = d k refl
is_slow line a b c d f g = tt

-- of these lines all but two begin a compound or a `sleep`
pub slow_compound : (line : Line) → IsSlow line → ((t : Bor Test) (k : ℕ) → line ≡ While t k → ⊥) → ((e : Bor Operand) → line ≡ Return e → ⊥) → IsSimple line × IsCompound line
slow_compound (While t k) h a b = absurd (a t k refl)
slow_compound (Return e) h a b = absurd (b e refl)
slow_compound (Sleep e) h a b = (tt, tt)
slow_compound (Create k) h a b = (tt, tt)
slow_compound (Destroy e) h a b = (tt, tt)
slow_compound (Compound k) h a b = (tt, tt)
slow_compound Default h a b = (tt, tt)
slow_compound line h a b = absurd h

-- it says a statement
pub says : (line : Line) → IsSimple line → (line' : Statement) × Says line line'
says (Let x e) h = (tree.Let x e.now, refl)
says (Compute x op e f) h = (tree.Compute x e.now op f.now, refl)
says (Return e) h = (tree.Return e.now, refl)
says (Call c) h = (tree.Call c.now, refl)
says (Sleep e) h = (tree.Sleep e.now, refl)
says (Create c) h = (tree.Create c.now, refl)
says (Destroy e) h = (tree.Destroy e.now, refl)
says (Compound c) h = (tree.Compound c.now, refl)
says Default h = (tree.Default, refl)
says line h = absurd h

pub said_weight : (line : Line) (line' : Statement) → Says line line' → weight line' ≡ 3
said_weight (Let x e) line' h = ap weight h
said_weight (Compute x op e f) line' h = ap weight h
said_weight (Return e) line' h = ap weight h
said_weight (Call c) line' h = ap weight h
said_weight (Sleep e) line' h = ap weight h
said_weight (Create c) line' h = ap weight h
said_weight (Destroy e) line' h = ap weight h
said_weight (Compound c) line' h = ap weight h
said_weight Default line' h = ap weight h
said_weight line line' h = absurd h

-- no lines stand for nothing
pub nothing_stands : {qs : List Piece} → Stands [] qs → ⊥
nothing_stands (out h) = nothing_stands h

-- lines, block by block
abbrev pub AreLines : List Piece → Type 0
AreLines [] = Unit {0}
AreLines (Lines xs ∷ ps) = AreLines ps
AreLines (p ∷ ps) = ⊥

pub are_lines : {lines : List Line} {qs : List Piece} → Stands lines qs → AreLines qs
are_lines (alone d h) = are_lines h
are_lines (branch h g) = are_lines g
are_lines (branches h g) = are_lines g
are_lines (loop h g) = are_lines g
are_lines (out h) = are_lines h
are_lines (over_else h) = are_lines h
are_lines end = tt

module _ (s : Tree) (n : ℕ) where
  pub keeps_on : (ps qs rs : List Piece) (a b c : State) → Keeps s ps a qs b n → Keeps s qs b rs c n → Keeps s ps a rs c n
  keeps_on ps qs rs a b c l m = record { by = λ tr e x. l.by tr e (m.by tr e x) }

  pub keeps_itself : (ps : List Piece) (st : State) → Keeps s ps st ps st n
  keeps_itself ps st = record { by = λ tr e x. x }

  pub by_step : (p : Piece) (left : List Piece) (st : State) (ps : List Piece) (st' : State) → step s p st n ≡ Becomes ps st' → Keeps s (p ∷ left) st (ps ++ left) st' n
  by_step p left st ps st' h = record { by = λ tr e m. silent ps st' h m }

  -- the end of a branch
  ends : (left rs : List Piece) (v : Variables) (st : State) → Keeps s left (Going v) rs st n → Keeps s (Lines [] ∷ left) (Going v) rs st n
  ends left rs v st k = keeps_on _ _ _ _ _ _ (by_step (Lines []) left (Going v) [] (Going v) refl) k

  -- lines pass on what they don't take
  pub lines_pass : (qs left : List Piece) (st : State) → AreLines qs → ((xs : List Statement) → step s (Lines xs) st n ≡ Becomes [] st) → Keeps s (qs ++ left) st left st n
  lines_pass [] left st h f = keeps_itself left st
  lines_pass (Lines xs ∷ qs) left st h f = keeps_on _ _ _ _ _ _ (by_step (Lines xs) (qs ++ left) st [] st (f xs)) (lines_pass qs left st h f)
  lines_pass (p ∷ qs) left st h f = absurd h

  -- a statement without a body
  pub alone_goes : {line : Line} {rest : List Line} {qs : List Piece} (left : List Piece) (v : Variables) → IsSimple line → Stands (line ∷ rest) qs → (line' : Statement) × Says line line' × ((rs : List Piece) × Stands rest rs × Keeps s (qs ++ left) (Going v) (One line' ∷ rs ++ left) (Going v) n)
  alone_goes left v i (alone {statement = line'} {more = more} {left = under} d h) = (line', d, (Lines more ∷ under, h, by_step (Lines (line' ∷ more)) (under ++ left) (Going v) (One line' ∷ Lines more ∷ []) (Going v) refl))
  alone_goes left v i (branch h g) = absurd i
  alone_goes left v i (branches h g) = absurd i
  alone_goes left v i (loop h g) = absurd i
  alone_goes left v i (out {left = under} h) = let r = alone_goes left v i h in (r.0, r.1, (r.2.0, r.2.1, ends (under ++ left) _ v (Going v) r.2.2))
  alone_goes left v i (over_else h) = absurd i
  alone_goes left v i end = absurd i

  -- an `else`
  pub else_goes : {passed : ℕ} {rest : List Line} {qs : List Piece} (left : List Piece) (v : Variables) → Stands (Else passed ∷ rest) qs → (rs : List Piece) × Stands (drop passed rest) rs × Keeps s (qs ++ left) (Going v) (rs ++ left) (Going v) n
  else_goes left v (alone d h) = absurd d
  else_goes left v (out {left = under} h) = let r = else_goes left v h in (r.0, r.1, ends (under ++ left) _ v (Going v) r.2)
  else_goes left v (over_else {left = under} h) = (under, h, ends (under ++ left) (under ++ left) v (Going v) (keeps_itself _ _))

  -- the end of a pass or a body
  pub end_goes : {rest : List Line} {qs : List Piece} (left : List Piece) (v : Variables) → Stands (End ∷ rest) qs → Keeps s (qs ++ left) (Going v) left (Going v) n
  end_goes left v (alone d h) = absurd d
  end_goes left v (out {left = under} h) = ends (under ++ left) left v (Going v) (end_goes left v h)
  end_goes left v end = ends left left v (Going v) (keeps_itself _ _)

  -- the line of an `if` whose test comes out so
  choose : (x y : Step) (b c : Bool) → b ≡ c → (if b then x else y) ≡ (if c then x else y)
  choose x y b c h = ap (λ z. if z then x else y) h

  one_goes : (line : Statement) (more : List Statement) (under left : List Piece) (v : Variables) (ps : List Piece) → statement line v n ≡ Becomes ps (Going v) → Keeps s (Lines (line ∷ more) ∷ under ++ left) (Going v) (ps ++ (Lines more ∷ under ++ left)) (Going v) n
  one_goes line more under left v ps h =
      keeps_on _ _ _ _ _ _ (by_step (Lines (line ∷ more)) (under ++ left) (Going v) (One line ∷ Lines more ∷ []) (Going v) refl) (by_step (One line) (Lines more ∷ under ++ left) (Going v) ps (Going v) h)

  pub then_goes : {t : Bor Test} {passed : ℕ} {rest : List Line} {qs : List Piece} (left : List Piece) (v : Variables) → holds t.now v ≡ true → Stands (If t passed ∷ rest) qs → (rs : List Piece) × Stands rest rs × Keeps s (qs ++ left) (Going v) (rs ++ left) (Going v) n
  then_goes left v y (alone d h) = absurd d
  then_goes left v y (branch {t = t} {k = k} {a = a} {more = more} {left = under} h g) =
      (Lines (items-the_row-Statement _ a) ∷ Lines more ∷ under, h, one_goes (tree.If' t.now k a) more under left v (Lines (items-the_row-Statement _ a) ∷ []) (choose (Becomes (Lines (items-the_row-Statement _ a) ∷ []) (Going v)) (passes (Going v)) (holds t.now v) true y))
  then_goes left v y (branches {t = t} {k = k} {a = a} {j = j} {b = b} {more = more} {left = under} h g) =
      (Lines (items-the_row-Statement _ a) ∷ Lines more ∷ under, h, one_goes (tree.IfElse' t.now k a j b) more under left v (Lines (items-the_row-Statement _ a) ∷ []) (ap (λ z. Becomes (Lines (if z then items-the_row-Statement _ a else items-the_row-Statement _ b) ∷ []) (Going v)) y))
  then_goes left v y (out {left = under} h) = let r = then_goes left v y h in (r.0, r.1, ends (under ++ left) _ v (Going v) r.2)

  pub otherwise_goes : {t : Bor Test} {passed : ℕ} {rest : List Line} {qs : List Piece} (left : List Piece) (v : Variables) → holds t.now v ≡ false → Stands (If t passed ∷ rest) qs → (rs : List Piece) × Stands (drop passed rest) rs × Keeps s (qs ++ left) (Going v) (rs ++ left) (Going v) n
  otherwise_goes left v y (alone d h) = absurd d
  otherwise_goes left v y (branch {t = t} {k = k} {a = a} {more = more} {left = under} h g) =
      (Lines more ∷ under, g, one_goes (tree.If' t.now k a) more under left v [] (choose (Becomes (Lines (items-the_row-Statement _ a) ∷ []) (Going v)) (passes (Going v)) (holds t.now v) false y))
  otherwise_goes left v y (branches {t = t} {k = k} {a = a} {j = j} {b = b} {more = more} {left = under} h g) =
      (Lines (items-the_row-Statement _ b) ∷ Lines more ∷ under, g, one_goes (tree.IfElse' t.now k a j b) more under left v (Lines (items-the_row-Statement _ b) ∷ []) (ap (λ z. Becomes (Lines (if z then items-the_row-Statement _ a else items-the_row-Statement _ b) ∷ []) (Going v)) y))
  otherwise_goes left v y (out {left = under} h) = let r = otherwise_goes left v y h in (r.0, r.1, ends (under ++ left) _ v (Going v) r.2)

-- the lines behind a `while` are its pass, and stand for what is behind it
pub data IsWhile (t : Bor Test) (passed : ℕ) (rest : List Line) : Statement → List Piece → Type 0 where
  is_while : {k : _} {a : _} {left : List Piece} → Stands rest (Lines (items-the_row-Statement _ a) ∷ []) → Stands (drop passed rest) left → IsWhile t passed rest (tree.While' t.now k a) left

module _ (s : Tree) (n : ℕ) where
  pub while_comes : {t : Bor Test} {passed : ℕ} {rest : List Line} {qs : List Piece} (left : List Piece) (v : Variables) → Stands (While t passed ∷ rest) qs → (line : Statement) × (rs : List Piece) × IsWhile t passed rest line rs × Keeps s (qs ++ left) (Going v) (One line ∷ rs ++ left) (Going v) n
  while_comes left v (alone d h) = absurd d
  while_comes left v (loop {t = t} {k = k} {a = a} {more = more} {left = under} h g) =
      (tree.While' t.now k a, Lines more ∷ under, is_while h g, by_step s n (Lines (tree.While' t.now k a ∷ more)) (under ++ left) (Going v) (One (tree.While' t.now k a) ∷ Lines more ∷ []) (Going v) refl)
  while_comes left v (out {left = under} h) = let r = while_comes left v h in (r.0, r.1, r.2, ends s n (under ++ left) _ v (Going v) r.3)
