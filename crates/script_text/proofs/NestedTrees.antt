-- A tree whose blocks are not too deep, and whose threads have no line of a procedure, has lines that nest.
use Rattle.std.proofs.Common.{◌≡◌, ℕ, ◌+◌, ◌<◌, ◌≤◌, Bool, true, false, cond, List, [], ◌∷◌, ◌++◌, length, Option, Some, None, refl, ap, sym, ◌∙◌, append_assoc, arith}
use Rattle.std.specs.Prelude.{nat_lt, ◌==◌, ◌||◌, ◌&&◌}
use Rattle.std.specs.List.{flat_map, list_any, AllByRecursion}
use Rattle.std.proofs.lemmas.Bool.{false≢true}
use Rattle.std.proofs.lemmas.Bool.Decides.{nat_tests}
use Rattle.script_tree.specs.declared.statement.Statement.{Statement, Row_of-Statement, end_of-Statement, more_of-Statement}
use Rattle.script_tree.specs.declared.statement.Statement.TheVariants as statements
use Rattle.script_tree.specs.Tree.{ProcedureTree, Tree}
use Rattle.script_lines.specs.declared.line.Line.{Line}
use Rattle.script_lines.specs.declared.line.Line.TheVariants as lines
use Rattle.script_text.specs.Lines.{statement_lines, row_lines, body_lines, thread_lines, numbered_lines, bodies_of, script_lines}
use Rattle.script_text.specs.Nesting.{Kind, InProcedure, InThread, InIf, InElse, InWhile, Nest, is_procedure, nested, nested_all, all_closed, nests, with_kinds, block_entered, start}
use Rattle.script_text.specs.TreeLimits.{depth, row_depth, is_of_procedure, is_row_of_procedure, IsFlat, IsNested}
use Rattle.script_text.proofs.TreeNesting.{nest, in_two}

-- a block opens where fewer than 33 lines stand open
opens : (kind k : Kind) (ks : List Kind) (i j : ℕ) → length (k ∷ ks) < 33 → with_kinds (nest (k ∷ ks) i j) (cond (nat_lt (length (k ∷ ks)) 33) (Some (kind ∷ k ∷ ks)) None) ≡ Some (nest (kind ∷ k ∷ ks) i j)
opens kind k ks i j few =
    let at : nat_lt (length (k ∷ ks)) 33 ≡ true = grind (arith, nat_tests, few) in
    ap (λ b. with_kinds (nest (k ∷ ks) i j) (cond b (Some (kind ∷ k ∷ ks)) None)) at

enters : (k : Kind) (ks : List Kind) (i j : ℕ) → list_any is_procedure (k ∷ ks) ≡ true → with_kinds (nest (k ∷ ks) i j) (cond (list_any is_procedure (k ∷ ks)) (block_entered (k ∷ ks)) None) ≡ Some (nest (k ∷ ks) i j)
enters k ks i j own = ap (λ b. with_kinds (nest (k ∷ ks) i j) (cond b (block_entered (k ∷ ks)) None)) own

either_left : (x y : Bool) → x ≡ true → (x || y) ≡ true
either_left x y e = ap (λ b. b || y) e

either_right : (x y : Bool) → y ≡ true → (x || y) ≡ true
either_right true y e = refl
either_right false y e = e

-- lines that leave what stands open, and then others
first_part : (o : Option Nest) (n : Nest) (xs ys : List Line) → nested_all o xs ≡ Some n → nested_all o (xs ++ ys) ≡ nested_all (Some n) ys
first_part o n xs ys e = in_two o xs ys ∙ ap (λ x. nested_all x ys) e

mutual
  statement_nests : (st : Statement) (k : Kind) (ks : List Kind) (i j : ℕ) → depth st + length (k ∷ ks) ≤ 33 → (is_of_procedure st ≡ true → list_any is_procedure (k ∷ ks) ≡ true) → nested_all (Some (nest (k ∷ ks) i j)) (statement_lines st) ≡ Some (nest (k ∷ ks) i j)
  statement_nests (statements.Let v a) k ks i j fits own = refl
  statement_nests (statements.Compute v a op b) k ks i j fits own = refl
  statement_nests (statements.If' t m a) k ks i j fits own =
      ap (λ o. nested_all o (row_lines a ++ lines.End ∷ [])) (opens InIf k ks i j (omega (arith, fits)))
      ∙ first_part (Some (nest (InIf ∷ k ∷ ks) i j)) (nest (InIf ∷ k ∷ ks) i j) (row_lines a) (lines.End ∷ []) (row_nests a InIf (k ∷ ks) i j (omega (arith, fits)) own)
  statement_nests (statements.IfElse' t m a l b) k ks i j fits own =
      ap (λ o. nested_all o (row_lines a ++ lines.Else ∷ (row_lines b ++ lines.End ∷ []))) (opens InIf k ks i j (omega (arith, fits)))
      ∙ first_part (Some (nest (InIf ∷ k ∷ ks) i j)) (nest (InIf ∷ k ∷ ks) i j) (row_lines a) (lines.Else ∷ (row_lines b ++ lines.End ∷ [])) (row_nests a InIf (k ∷ ks) i j (omega (arith, fits)) (λ h. own (either_left (is_row_of_procedure a) (is_row_of_procedure b) h)))
      ∙ first_part (Some (nest (InElse ∷ k ∷ ks) i j)) (nest (InElse ∷ k ∷ ks) i j) (row_lines b) (lines.End ∷ []) (row_nests b InElse (k ∷ ks) i j (omega (arith, fits)) (λ h. own (either_right (is_row_of_procedure a) (is_row_of_procedure b) h)))
  statement_nests (statements.While' t m a) k ks i j fits own =
      ap (λ o. nested_all o (row_lines a ++ lines.End ∷ [])) (opens InWhile k ks i j (omega (arith, fits)))
      ∙ first_part (Some (nest (InWhile ∷ k ∷ ks) i j)) (nest (InWhile ∷ k ∷ ks) i j) (row_lines a) (lines.End ∷ []) (row_nests a InWhile (k ∷ ks) i j (omega (arith, fits)) own)
  statement_nests (statements.Return a) k ks i j fits own = enters k ks i j (own refl)
  statement_nests (statements.Call c) k ks i j fits own = refl
  statement_nests (statements.Sleep a) k ks i j fits own = refl
  statement_nests (statements.Create c) k ks i j fits own = refl
  statement_nests (statements.Destroy a) k ks i j fits own = refl
  statement_nests (statements.Compound c) k ks i j fits own = refl
  statement_nests statements.Default k ks i j fits own = enters k ks i j (own refl)

  row_nests : {m : _} (row : Row_of-Statement m) (k : Kind) (ks : List Kind) (i j : ℕ) → row_depth row + length (k ∷ ks) ≤ 33 → (is_row_of_procedure row ≡ true → list_any is_procedure (k ∷ ks) ≡ true) → nested_all (Some (nest (k ∷ ks) i j)) (row_lines row) ≡ Some (nest (k ∷ ks) i j)
  row_nests end_of-Statement k ks i j fits own = refl
  row_nests (more_of-Statement st rest) k ks i j fits own =
      first_part (Some (nest (k ∷ ks) i j)) (nest (k ∷ ks) i j) (statement_lines st) (row_lines rest)
      (statement_nests st k ks i j (omega (arith, fits)) (λ h. own (either_left (is_of_procedure st) (is_row_of_procedure rest) h)))
      ∙ row_nests rest k ks i j (omega (arith, fits)) (λ h. own (either_right (is_of_procedure st) (is_row_of_procedure rest) h))

body_nests : (body : List Statement) (kind : Kind) (i j : ℕ) → IsFlat body → (list_any is_of_procedure body ≡ true → list_any is_procedure (kind ∷ []) ≡ true) → nested_all (Some (nest (kind ∷ []) i j)) (body_lines body) ≡ Some (nest (kind ∷ []) i j)
body_nests [] kind i j flat own = refl
body_nests (st ∷ body) kind i j flat own =
    first_part (Some (nest (kind ∷ []) i j)) (nest (kind ∷ []) i j) (statement_lines st) (body_lines body)
    (statement_nests st kind [] i j (omega (arith, flat.0)) (λ h. own (either_left (is_of_procedure st) (list_any is_of_procedure body) h)))
    ∙ body_nests body kind i j flat.1 (λ h. own (either_right (is_of_procedure st) (list_any is_of_procedure body) h))

threads_nest : (threads : List (List Statement)) (i j : ℕ) → AllByRecursion IsFlat threads → AllByRecursion (λ body. list_any is_of_procedure body ≡ false) threads → nested_all (Some (nest [] i j)) (flat_map thread_lines threads) ≡ Some (nest [] i (j + length threads))
threads_nest [] i j flat none = let same : j ≡ j + 0 = omega arith in ap (λ n. let o : Option Nest = Some (nest [] i n) in o) same
threads_nest (body ∷ threads) i j flat none =
    let rest = flat_map thread_lines threads in
    let more : (j + 1) + length threads ≡ j + length (body ∷ threads) = omega arith in
    ap (nested_all (Some (nest (InThread ∷ []) i j))) (append_assoc (body_lines body) (lines.End ∷ []) rest)
    ∙ first_part (Some (nest (InThread ∷ []) i j)) (nest (InThread ∷ []) i j) (body_lines body) (lines.End ∷ rest) (body_nests body InThread i j flat.0 (λ h. absurd (false≢true (sym none.0 ∙ h))))
    ∙ threads_nest threads i (j + 1) flat.1 none.1
    ∙ ap (λ n. let o : Option Nest = Some (nest [] i n) in o) more

begins : (k i : ℕ) → k ≡ i → with_kinds (nest [] i 0) (cond ((0 == 0) && (k == i)) (Some (InProcedure k ∷ [])) None) ≡ Some (nest (InProcedure k ∷ []) i 0)
begins k i same = let at : (k == i) ≡ true = grind (arith, nat_tests, same) in ap (λ b. with_kinds (nest [] i 0) (cond ((0 == 0) && b) (Some (InProcedure k ∷ [])) None)) at

procedures_nest : (bodies : List (List Statement)) (k : ℕ) → AllByRecursion IsFlat bodies → nested_all (Some (nest [] k 0)) (numbered_lines k bodies) ≡ Some (nest [] (k + length bodies) 0)
procedures_nest [] k flat = let same : k ≡ k + 0 = omega arith in ap (λ n. let o : Option Nest = Some (nest [] n 0) in o) same
procedures_nest (body ∷ bodies) k flat =
    let rest = numbered_lines (k + 1) bodies in
    let more : (k + 1) + length bodies ≡ k + length (body ∷ bodies) = omega arith in
    ap (λ o. nested_all o ((body_lines body ++ lines.End ∷ []) ++ rest)) (begins k k refl)
    ∙ ap (nested_all (Some (nest (InProcedure k ∷ []) k 0))) (append_assoc (body_lines body) (lines.End ∷ []) rest)
    ∙ first_part (Some (nest (InProcedure k ∷ []) k 0)) (nest (InProcedure k ∷ []) k 0) (body_lines body) (lines.End ∷ rest) (body_nests body (InProcedure k) k 0 flat.0 (λ h. refl))
    ∙ procedures_nest bodies (k + 1) flat.1
    ∙ ap (λ n. let o : Option Nest = Some (nest [] n 0) in o) more

flat_bodies : (procedures : List ProcedureTree) → AllByRecursion (λ (p : ProcedureTree). IsFlat p.body) procedures → AllByRecursion IsFlat (bodies_of procedures)
flat_bodies [] h = tt
flat_bodies (p ∷ procedures) h = (h.0, flat_bodies procedures h.1)

pub nested_tree : (s : Tree) → IsNested s → nests (script_lines s) ≡ true
unfolding script_lines
nested_tree s nested =
    let bodies = bodies_of s.procedures in
    ap all_closed (first_part (Some start) (nest [] (0 + length bodies) 0) (numbered_lines 0 bodies) (flat_map thread_lines s.threads) (procedures_nest bodies 0 (flat_bodies s.procedures nested.procedures))
    ∙ threads_nest s.threads (0 + length bodies) 0 nested.threads nested.no_return)
