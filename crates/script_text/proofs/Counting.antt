-- How many procedures and threads lines have.
use Rattle.std.proofs.Common.{◌≡◌, ℕ, ◌+◌, Bool, true, false, List, [], ◌∷◌, ◌++◌, length, Option, Some, None, refl, ap, sym, ◌∙◌, arith}
use Rattle.std.specs.Prelude.{◌&&◌, ◌==◌, nat_lt, if◌then◌else◌, map}
use Rattle.std.specs.List.{flat_map}
use Rattle.std.proofs.lemmas.Bool.{false≢true}
use Rattle.std.proofs.lemmas.Bool.Decides.{nat_tests}
use Rattle.script_tree.specs.declared.operand.Operand.{Operand}
use Rattle.script_tree.specs.declared.statement.Statement.{Statement, Row_of-Statement, end_of-Statement, more_of-Statement}
use Rattle.script_tree.specs.declared.statement.Statement.TheVariants as statements
use Rattle.script_tree.specs.declared.statement.CallStatement.{CallStatement}
use Rattle.script_tree.specs.declared.statement.CallStatement.TheVariants as calls
use Rattle.script_lines.specs.declared.line.Line.{Line}
use Rattle.script_lines.specs.declared.line.Line.TheVariants as lines
use Rattle.statement_table.specs.declared.part.Part.{Part}
use Rattle.statement_table.specs.declared.part.Part.TheVariants as parts
use Rattle.script_lines.specs.LineParts.{line_parts}
use Rattle.statement_table.specs.Compounds.{compound_operands}
use Rattle.statement_table.specs.Statements.{statement_parts}
use Rattle.script_lines.specs.NameLimits.{all_seen, begun_after, begun_all, are_procedures_in_order}
use Rattle.script_lines.proofs.LinesAgain.{none_begun, none_begun_after}
use Rattle.script_text.specs.Grammar.{thread_of, thread_count}
use Rattle.script_text.specs.Lines.{statement_lines, row_lines, body_lines, thread_lines, procedure_lines, numbered_lines, code_lines}

-- what a line counts for, where a procedure counts for p and a thread for t
abbrev weight : ℕ → ℕ → Line → ℕ
weight p t (lines.Procedure k) = p
weight p t lines.Thread = t
weight p t (lines.Let v a) = 0
weight p t (lines.Compute v a op b) = 0
weight p t (lines.If c) = 0
weight p t lines.Else = 0
weight p t (lines.While c) = 0
weight p t lines.End = 0
weight p t (lines.Return a) = 0
weight p t (lines.Call c) = 0
weight p t (lines.Sleep a) = 0
weight p t (lines.Create c) = 0
weight p t (lines.Destroy a) = 0
weight p t (lines.Compound c) = 0
weight p t lines.Default = 0

abbrev pub total : ℕ → ℕ → List Line → ℕ
total p t [] = 0
total p t (l ∷ ls) = weight p t l + total p t ls

weighed : (l : Line) → thread_of l ≡ weight 0 1 l
weighed lines.Thread = refl
weighed (lines.Procedure k) = refl
weighed l = refl

pub thread_total : (ls : List Line) → thread_count ls ≡ total 0 1 ls
thread_total [] = refl
thread_total (l ∷ ls) = omega (arith, weighed l, thread_total ls)

total_append : (p t : ℕ) (a c : List Line) → total p t (a ++ c) ≡ total p t a + total p t c
total_append p t [] c = omega arith
total_append p t (l ∷ a) c = omega (arith, total_append p t a c)

mutual
  none_inside : (p t : ℕ) (st : Statement) → total p t (statement_lines st) ≡ 0
  none_inside p t (statements.Let v a) = refl
  none_inside p t (statements.Compute v a op b) = refl
  none_inside p t (statements.If' c k a) = omega (arith, total_append p t (row_lines a) (lines.End ∷ []), none_in_row p t a)
  none_inside p t (statements.IfElse' c k a j b) = omega (arith, total_append p t (row_lines a) (lines.Else ∷ (row_lines b ++ lines.End ∷ [])), total_append p t (row_lines b) (lines.End ∷ []), none_in_row p t a, none_in_row p t b)
  none_inside p t (statements.While' c k a) = omega (arith, total_append p t (row_lines a) (lines.End ∷ []), none_in_row p t a)
  none_inside p t (statements.Return a) = refl
  none_inside p t (statements.Call c) = refl
  none_inside p t (statements.Sleep a) = refl
  none_inside p t (statements.Create c) = refl
  none_inside p t (statements.Destroy a) = refl
  none_inside p t (statements.Compound c) = refl
  none_inside p t statements.Default = refl

  none_in_row : (p t : ℕ) {m : _} (row : Row_of-Statement m) → total p t (row_lines row) ≡ 0
  none_in_row p t end_of-Statement = refl
  none_in_row p t (more_of-Statement st rest) = omega (arith, total_append p t (statement_lines st) (row_lines rest), none_inside p t st, none_in_row p t rest)

none_in_body : (p t : ℕ) (body : List Statement) → total p t (body_lines body) ≡ 0
none_in_body p t [] = refl
none_in_body p t (st ∷ body) = omega (arith, total_append p t (statement_lines st) (body_lines body), none_inside p t st, none_in_body p t body)

one_procedure : (p t k : ℕ) (body : List Statement) → total p t (procedure_lines k body) ≡ p
one_procedure p t k body = omega (arith, total_append p t (body_lines body) (lines.End ∷ []), none_in_body p t body)

one_thread : (p t : ℕ) (body : List Statement) → total p t (thread_lines body) ≡ t
one_thread p t body = omega (arith, total_append p t (body_lines body) (lines.End ∷ []), none_in_body p t body)

procedures_one : (k : ℕ) (bodies : List (List Statement)) → total 1 0 (numbered_lines k bodies) ≡ length bodies
procedures_one k [] = refl
procedures_one k (body ∷ bodies) = omega (arith, total_append 1 0 (procedure_lines k body) (numbered_lines (k + 1) bodies), one_procedure 1 0 k body, procedures_one (k + 1) bodies)

procedures_none : (k : ℕ) (bodies : List (List Statement)) → total 0 1 (numbered_lines k bodies) ≡ 0
procedures_none k [] = refl
procedures_none k (body ∷ bodies) = omega (arith, total_append 0 1 (procedure_lines k body) (numbered_lines (k + 1) bodies), one_procedure 0 1 k body, procedures_none (k + 1) bodies)

threads_one : (bodies : List (List Statement)) → total 0 1 (flat_map thread_lines bodies) ≡ length bodies
threads_one [] = refl
threads_one (body ∷ bodies) = omega (arith, total_append 0 1 (thread_lines body) (flat_map thread_lines bodies), one_thread 0 1 body, threads_one bodies)

threads_none : (bodies : List (List Statement)) → total 1 0 (flat_map thread_lines bodies) ≡ 0
threads_none [] = refl
threads_none (body ∷ bodies) = omega (arith, total_append 1 0 (thread_lines body) (flat_map thread_lines bodies), one_thread 1 0 body, threads_none bodies)

procedures_counted : (procedures threads : List (List Statement)) → total 1 0 (code_lines procedures threads) ≡ length procedures
procedures_counted procedures threads = omega (arith, total_append 1 0 (numbered_lines 0 procedures) (flat_map thread_lines threads), procedures_one 0 procedures, threads_none threads)

pub threads_counted : (procedures threads : List (List Statement)) → total 0 1 (code_lines procedures threads) ≡ length threads
threads_counted procedures threads = omega (arith, total_append 0 1 (numbered_lines 0 procedures) (flat_map thread_lines threads), procedures_none 0 procedures, threads_one threads)

-- ---- procedures that begin

some_same : (n m : ℕ) → (let x : Option ℕ = Some n in let y : Option ℕ = Some m in x ≡ y) → n ≡ m
some_same n m e = let f : Option ℕ → ℕ = λ o. elim o [ None ↦ n | Some x ↦ x ] in ap f e

-- how many of these parts begin a procedure
abbrev begins : List Part → ℕ
begins [] = 0
begins (parts.Beginning k ∷ ps) = 1 + begins ps
begins (p ∷ ps) = begins ps

after_test : (count : ℕ) (b : Bool) (x n m : ℕ) (ps : List Part) → (begun_after count (Some x) ps ≡ Some m → n ≡ m) → begun_after count (if b then Some x else None) ps ≡ Some m → n ≡ m
after_test count true x n m ps go e = go e
after_test count false x n m ps go e = absurd (cc (sym (none_begun_after count ps) ∙ e))

begun_parts : (count n m : ℕ) (ps : List Part) → begun_after count (Some n) ps ≡ Some m → n + begins ps ≡ m
begun_parts count n m [] e = omega (arith, some_same n m e)
begun_parts count n m (parts.Beginning k ∷ ps) e = after_test count ((k == n) && nat_lt n count) (n + 1) (n + (1 + begins ps)) m ps (λ f. omega (arith, begun_parts count (n + 1) m ps f)) e
begun_parts count n m (parts.Procedure k ∷ ps) e = after_test count (nat_lt k n) n (n + begins ps) m ps (begun_parts count n m ps) e
begun_parts count n m (parts.Letter v ∷ ps) e = begun_parts count n m ps e
begun_parts count n m (parts.Operand a ∷ ps) e = begun_parts count n m ps e
begun_parts count n m (parts.Operator op ∷ ps) e = begun_parts count n m ps e
begun_parts count n m (parts.Comparison c ∷ ps) e = begun_parts count n m ps e
begun_parts count n m (parts.Name k ∷ ps) e = begun_parts count n m ps e

-- no statement of a call begins a procedure
call_begins : (c : CallStatement) → begins (statement_parts c) ≡ 0
call_begins calls.Dispatch = refl
call_begins c = refl

-- no operand begins one
operands_begin : (ops : List Operand) → begins (map (λ a. parts.Operand a) ops) ≡ 0
operands_begin [] = refl
operands_begin (a ∷ ops) = operands_begin ops

line_begins : (l : Line) → begins (line_parts l) ≡ weight 1 0 l
line_begins (lines.Call c) = call_begins c
line_begins (lines.Compound c) = operands_begin (compound_operands c)
line_begins lines.Thread = refl
line_begins l = refl

begun_more : (count n m : ℕ) (l : Line) → begun_after count (Some n) (line_parts l) ≡ Some m → n + weight 1 0 l ≡ m
begun_more count n m l e = omega (arith, begun_parts count n m (line_parts l) e, line_begins l)

eq_told : (a b : ℕ) → (a == b) ≡ true → a ≡ b
eq_told a b h = grind (arith, nat_tests, h)

-- a number of procedures has begun after the first line
first_begun : (count : ℕ) (o : Option ℕ) (ls : List Line) → all_seen count (begun_all count o ls) ≡ true → (m : ℕ) × (o ≡ Some m)
first_begun count None ls h = absurd (false≢true (sym (ap (all_seen count) (none_begun count ls)) ∙ h))
first_begun count (Some m) ls h = (m, refl)

begun_counted : (count n : ℕ) (ls : List Line) → all_seen count (begun_all count (Some n) ls) ≡ true → n + total 1 0 ls ≡ count
begun_counted count n [] h = omega (arith, eq_told n count h)
begun_counted count n (l ∷ ls) h =
    let first = first_begun count (begun_after count (Some n) (line_parts l)) ls h in
    let rest = begun_counted count first.0 ls (ap (λ (o : Option ℕ). all_seen count (begun_all count o ls)) (sym first.1) ∙ h) in
    omega (arith, begun_more count n first.0 l first.1, rest)

-- there is a body for each name of a procedure
pub as_many : (count : ℕ) (names : List (List ℕ)) (procedures threads : List (List Statement)) (ls : List Line) → count ≡ length names → are_procedures_in_order count ls ≡ true → code_lines procedures threads ≡ ls → length names ≡ length procedures
as_many count names procedures threads ls len h e =
    let begun = begun_counted count 0 ls h in
    let counted : total 1 0 ls ≡ length procedures = ap (total 1 0) (sym e) ∙ procedures_counted procedures threads in
    omega (arith, begun, counted, len)
