-- The nesting of lines says how a tree nests.
use Rattle.std.proofs.Common.{◌≡◌, ℕ, suc, ◌+◌, ◌<◌, ◌≤◌, Bool, true, false, cond, List, [], ◌∷◌, ◌++◌, length, Option, Some, None, refl, ap, sym, ◌∙◌, append_assoc, arith, subst}
use Rattle.std.specs.Prelude.{nat_lt, ◌==◌, ◌||◌, ◌&&◌, max}
use Rattle.std.specs.List.{flat_map, list_any, AllByRecursion}
use Rattle.std.proofs.lemmas.Bool.{false≢true}
use Rattle.std.proofs.lemmas.Bool.Decides.{nat_tests}
use Rattle.script_tree.specs.declared.statement.Statement.{Statement, Row_of-Statement, end_of-Statement, more_of-Statement}
use Rattle.script_tree.specs.declared.statement.Statement.TheVariants as statements
use Rattle.script_tree.specs.Tree.{ProcedureTree, Tree}
use Rattle.script_lines.specs.declared.line.Line.{Line}
use Rattle.script_lines.specs.declared.line.Line.TheVariants as lines
use Rattle.script_text.specs.Lines.{statement_lines, row_lines, body_lines, thread_lines, procedure_lines, numbered_lines, bodies_of, script_lines}
use Rattle.script_text.specs.Nesting.{Kind, InProcedure, InThread, InIf, InElse, InWhile, Nest, is_procedure, nested_on, nested_all, all_closed, nests, with_kinds, block_entered, closed, start}
use Rattle.script_text.specs.TreeLimits.{depth, row_depth, is_of_procedure, is_row_of_procedure, IsFlat, IsNested}
use Rattle.script_text.proofs.BuildLemmas.{stays_none}

-- what stands open
abbrev pub nest : List Kind → ℕ → ℕ → Nest
nest ks i j = record { kinds = ks; procedures = i; threads = j }

pub in_two : (o : Option Nest) (xs ys : List Line) → nested_all o (xs ++ ys) ≡ nested_all (nested_all o xs) ys
in_two o [] ys = refl
in_two o (x ∷ xs) ys = in_two (nested_on o x) xs ys

-- a line that can't stand there ends it
no_more : {X : Type 0} (ls : List Line) (n : Nest) → nested_all None ls ≡ Some n → X
no_more ls n e = let clash : None ≡ Some n = sym (stays_none ls) ∙ e in absurd cc

-- the lines leave what stands open, which is not too deep for them, and a procedure where they need one
record Stays (deep : ℕ) (own : Bool) (ks : List Kind) (i j : ℕ) (n : Nest) : Type 0 where
  same : n ≡ nest ks i j
  fits : deep + length ks ≤ 33
  inside : own ≡ true → list_any is_procedure ks ≡ true

some_same : {X : Type 0} (x y : X) → Some x ≡ Some y → y ≡ x
some_same x y e = cc

plain : (k : Kind) (ks : List Kind) (i j : ℕ) (n : Nest) → length (k ∷ ks) ≤ 33 → Some (nest (k ∷ ks) i j) ≡ Some n → Stays 0 false (k ∷ ks) i j n
plain k ks i j n few e = record { same = some_same (nest (k ∷ ks) i j) n e; fits = omega (arith, few); inside = λ h. absurd (false≢true h) }

own_line : (k : Kind) (ks : List Kind) (i j : ℕ) (n : Nest) → length (k ∷ ks) ≤ 33 → (b : Bool) → list_any is_procedure (k ∷ ks) ≡ b → with_kinds (nest (k ∷ ks) i j) (cond b (block_entered (k ∷ ks)) None) ≡ Some n → Stays 0 true (k ∷ ks) i j n
own_line k ks i j n few true at e = record { same = some_same (nest (k ∷ ks) i j) n e; fits = omega (arith, few); inside = λ h. at }
own_line k ks i j n few false at e = absurd cc

opened : (b : Bool) (kind k : Kind) (ks : List Kind) (i j : ℕ) (ls : List Line) (n : Nest) → nat_lt (length (k ∷ ks)) 33 ≡ b → nested_all (with_kinds (nest (k ∷ ks) i j) (cond b (Some (kind ∷ k ∷ ks)) None)) ls ≡ Some n
    → (length (k ∷ ks) < 33) × (nested_all (Some (nest (kind ∷ k ∷ ks) i j)) ls ≡ Some n)
opened true kind k ks i j ls n at e = (grind (arith, nat_tests, at), e)
opened false kind k ks i j ls n at e = no_more ls n e

-- a block, of which the lines inside leave what stands open
record Inside (deep : ℕ) (own : Bool) (kind : Kind) (ks : List Kind) (i j : ℕ) (rest : List Line) (n : Nest) : Type 0 where
  stays : Stays deep own (kind ∷ ks) i j (nest (kind ∷ ks) i j)
  goes_on : nested_all (Some (nest (kind ∷ ks) i j)) rest ≡ Some n

inside_of : (deep : ℕ) (own : Bool) (kind : Kind) (ks : List Kind) (i j : ℕ) (row rest : List Line) (n : Nest) → ((m : Nest) → nested_all (Some (nest (kind ∷ ks) i j)) row ≡ Some m → Stays deep own (kind ∷ ks) i j m)
    → nested_all (Some (nest (kind ∷ ks) i j)) (row ++ rest) ≡ Some n → Inside deep own kind ks i j rest n
inside_of deep own kind ks i j row rest n row_stays e = by (nested_all (Some (nest (kind ∷ ks) i j)) row) refl (sym (in_two (Some (nest (kind ∷ ks) i j)) row rest) ∙ e)
  where
    by : (o : Option Nest) → nested_all (Some (nest (kind ∷ ks) i j)) row ≡ o → nested_all o rest ≡ Some n → Inside deep own kind ks i j rest n
    by None at e = no_more rest n e
    by (Some m) at e = let s = row_stays m at in record {
      stays = record { same = refl; fits = s.fits; inside = s.inside };
      goes_on = subst (λ (x : Nest). nested_all (Some x) rest ≡ Some n) s.same e;
    }

deeper : (a b : ℕ) (x y : Bool) (kind other k : Kind) (ks : List Kind) (i j : ℕ) (n : Nest) → is_procedure kind ≡ false → is_procedure other ≡ false → Stays a x (kind ∷ k ∷ ks) i j (nest (kind ∷ k ∷ ks) i j) → Stays b y (other ∷ k ∷ ks) i j (nest (other ∷ k ∷ ks) i j)
    → Some (nest (k ∷ ks) i j) ≡ Some n → Stays (suc (max a b)) (x || y) (k ∷ ks) i j n
deeper a b x y kind other k ks i j n not_own also s t e = record {
  same = some_same (nest (k ∷ ks) i j) n e;
  fits = omega (arith, s.fits, t.fits);
  inside = λ h. either x y h s.inside t.inside;
}
  where
    either : (x y : Bool) → (x || y) ≡ true → (x ≡ true → list_any is_procedure (kind ∷ k ∷ ks) ≡ true) → (y ≡ true → list_any is_procedure (other ∷ k ∷ ks) ≡ true) → list_any is_procedure (k ∷ ks) ≡ true
    either true y h f g = sym (ap (λ b. b || list_any is_procedure (k ∷ ks)) not_own) ∙ f refl
    either false y h f g = sym (ap (λ b. b || list_any is_procedure (k ∷ ks)) also) ∙ g h

one_block : (a : ℕ) (x : Bool) (kind k : Kind) (ks : List Kind) (i j : ℕ) (n : Nest) → is_procedure kind ≡ false → Stays a x (kind ∷ k ∷ ks) i j (nest (kind ∷ k ∷ ks) i j) → Some (nest (k ∷ ks) i j) ≡ Some n → Stays (suc a) x (k ∷ ks) i j n
one_block a x kind k ks i j n not_own s e = record {
  same = some_same (nest (k ∷ ks) i j) n e;
  fits = omega (arith, s.fits);
  inside = λ h. sym (ap (λ b. b || list_any is_procedure (k ∷ ks)) not_own) ∙ s.inside h;
}

both_stay : (a b : ℕ) (x y : Bool) (ks : List Kind) (i j : ℕ) (n : Nest) → Stays a x ks i j (nest ks i j) → Stays b y ks i j n → Stays (max a b) (x || y) ks i j n
both_stay a b x y ks i j n s t = record { same = t.same; fits = omega (arith, s.fits, t.fits); inside = λ h. either x y h s.inside t.inside }
  where
    either : (x y : Bool) → (x || y) ≡ true → (x ≡ true → list_any is_procedure ks ≡ true) → (y ≡ true → list_any is_procedure ks ≡ true) → list_any is_procedure ks ≡ true
    either true y h f g = f refl
    either false y h f g = g h

mutual
  -- a statement leaves what stands open
  statement_stays : (st : Statement) (k : Kind) (ks : List Kind) (i j : ℕ) (n : Nest) → length (k ∷ ks) ≤ 33 → nested_all (Some (nest (k ∷ ks) i j)) (statement_lines st) ≡ Some n → Stays (depth st) (is_of_procedure st) (k ∷ ks) i j n
  statement_stays (statements.Let v a) k ks i j n few e = plain k ks i j n few e
  statement_stays (statements.Compute v a op b) k ks i j n few e = plain k ks i j n few e
  statement_stays (statements.If' t m a) k ks i j n few e =
      let o = opened (nat_lt (length (k ∷ ks)) 33) InIf k ks i j (row_lines a ++ lines.End ∷ []) n refl e in
      let r = inside_of (row_depth a) (is_row_of_procedure a) InIf (k ∷ ks) i j (row_lines a) (lines.End ∷ []) n (λ x at. row_stays a InIf (k ∷ ks) i j x (omega (arith, o.0)) at) o.1 in
      one_block (row_depth a) (is_row_of_procedure a) InIf k ks i j n refl r.stays r.goes_on
  statement_stays (statements.IfElse' t m a l b) k ks i j n few e =
      let o = opened (nat_lt (length (k ∷ ks)) 33) InIf k ks i j (row_lines a ++ lines.Else ∷ (row_lines b ++ lines.End ∷ [])) n refl e in
      let r = inside_of (row_depth a) (is_row_of_procedure a) InIf (k ∷ ks) i j (row_lines a) (lines.Else ∷ (row_lines b ++ lines.End ∷ [])) n (λ x at. row_stays a InIf (k ∷ ks) i j x (omega (arith, o.0)) at) o.1 in
      let q = inside_of (row_depth b) (is_row_of_procedure b) InElse (k ∷ ks) i j (row_lines b) (lines.End ∷ []) n (λ x at. row_stays b InElse (k ∷ ks) i j x (omega (arith, o.0)) at) r.goes_on in
      deeper (row_depth a) (row_depth b) (is_row_of_procedure a) (is_row_of_procedure b) InIf InElse k ks i j n refl refl r.stays q.stays q.goes_on
  statement_stays (statements.While' t m a) k ks i j n few e =
      let o = opened (nat_lt (length (k ∷ ks)) 33) InWhile k ks i j (row_lines a ++ lines.End ∷ []) n refl e in
      let r = inside_of (row_depth a) (is_row_of_procedure a) InWhile (k ∷ ks) i j (row_lines a) (lines.End ∷ []) n (λ x at. row_stays a InWhile (k ∷ ks) i j x (omega (arith, o.0)) at) o.1 in
      one_block (row_depth a) (is_row_of_procedure a) InWhile k ks i j n refl r.stays r.goes_on
  statement_stays (statements.Return a) k ks i j n few e = own_line k ks i j n few (list_any is_procedure (k ∷ ks)) refl e
  statement_stays (statements.Call c) k ks i j n few e = plain k ks i j n few e
  statement_stays (statements.Sleep a) k ks i j n few e = plain k ks i j n few e
  statement_stays (statements.Create c) k ks i j n few e = plain k ks i j n few e
  statement_stays (statements.Destroy a) k ks i j n few e = plain k ks i j n few e
  statement_stays (statements.Compound c) k ks i j n few e = plain k ks i j n few e
  statement_stays statements.Default k ks i j n few e = own_line k ks i j n few (list_any is_procedure (k ∷ ks)) refl e

  row_stays : {m : _} (row : Row_of-Statement m) (k : Kind) (ks : List Kind) (i j : ℕ) (n : Nest) → length (k ∷ ks) ≤ 33 → nested_all (Some (nest (k ∷ ks) i j)) (row_lines row) ≡ Some n → Stays (row_depth row) (is_row_of_procedure row) (k ∷ ks) i j n
  row_stays end_of-Statement k ks i j n few e = plain k ks i j n few e
  row_stays (more_of-Statement st rest) k ks i j n few e =
      let s = inside_of (depth st) (is_of_procedure st) k ks i j (statement_lines st) (row_lines rest) n (λ x at. statement_stays st k ks i j x few at) e in
      both_stay (depth st) (row_depth rest) (is_of_procedure st) (is_row_of_procedure rest) (k ∷ ks) i j n s.stays (row_stays rest k ks i j n few s.goes_on)

-- ---- bodies

-- so do the statements of a body: none is too deep, and where none of what stands open is a procedure none needs one
record BodyStays (body : List Statement) (kind : Kind) (i j : ℕ) (rest : List Line) (n : Nest) : Type 0 where
  flat : IsFlat body
  outside : is_procedure kind ≡ false → list_any is_of_procedure body ≡ false
  goes_on : nested_all (Some (nest (kind ∷ []) i j)) rest ≡ Some n

neither_of : (x y : Bool) → (x ≡ true → ⊥) → y ≡ false → (x || y) ≡ false
neither_of true y f e = absurd (f refl)
neither_of false y f e = e

body_stays : (body : List Statement) (kind : Kind) (i j : ℕ) (rest : List Line) (n : Nest) → nested_all (Some (nest (kind ∷ []) i j)) (body_lines body ++ rest) ≡ Some n → BodyStays body kind i j rest n
body_stays [] kind i j rest n e = record { flat = tt; outside = λ not_own. refl; goes_on = e }
body_stays (st ∷ body) kind i j rest n e =
    let moved : nested_all (Some (nest (kind ∷ []) i j)) (statement_lines st ++ (body_lines body ++ rest)) ≡ Some n = ap (nested_all (Some (nest (kind ∷ []) i j))) (sym (append_assoc (statement_lines st) (body_lines body) rest)) ∙ e in
    let s = inside_of (depth st) (is_of_procedure st) kind [] i j (statement_lines st) (body_lines body ++ rest) n (λ x at. statement_stays st kind [] i j x (omega arith) at) moved in
    let r = body_stays body kind i j rest n s.goes_on in
    record {
      flat = (let fits = s.stays.fits in omega (arith, fits), r.flat);
      outside = λ not_own. neither_of (is_of_procedure st) (list_any is_of_procedure body) (λ own. false≢true (sym (ap (λ b. b || false) not_own) ∙ s.stays.inside own)) (r.outside not_own);
      goes_on = r.goes_on;
    }

-- ---- threads and procedures

-- the threads of lines that close all that they open
record ThreadsNest (threads : List (List Statement)) : Type 0 where
  flat : AllByRecursion IsFlat threads
  no_return : AllByRecursion (λ body. list_any is_of_procedure body ≡ false) threads

threads_nest : (threads : List (List Statement)) (i j : ℕ) (n : Nest) → nested_all (Some (nest [] i j)) (flat_map thread_lines threads) ≡ Some n → ThreadsNest threads
threads_nest [] i j n e = record { flat = tt; no_return = tt }
threads_nest (body ∷ threads) i j n e =
    let rest = flat_map thread_lines threads in
    let moved : nested_all (Some (nest (InThread ∷ []) i j)) (body_lines body ++ (lines.End ∷ rest)) ≡ Some n = ap (nested_all (Some (nest (InThread ∷ []) i j))) (sym (append_assoc (body_lines body) (lines.End ∷ []) rest)) ∙ e in
    let b = body_stays body InThread i j (lines.End ∷ rest) n moved in
    let r = threads_nest threads i (j + 1) n b.goes_on in
    record { flat = (b.flat, r.flat); no_return = (b.outside refl, r.no_return) }

begins : (b : Bool) (k i j : ℕ) (ls : List Line) (n : Nest) → nested_all (with_kinds (nest [] i j) (cond b (Some (InProcedure k ∷ [])) None)) ls ≡ Some n → nested_all (Some (nest (InProcedure k ∷ []) i j)) ls ≡ Some n
begins true k i j ls n e = e
begins false k i j ls n e = no_more ls n e

record AllNest (procedures threads : List (List Statement)) : Type 0 where
  flat : AllByRecursion IsFlat procedures
  threads_are : ThreadsNest threads

all_nest : (procedures threads : List (List Statement)) (k i j : ℕ) (n : Nest) → nested_all (Some (nest [] i j)) (numbered_lines k procedures ++ flat_map thread_lines threads) ≡ Some n → AllNest procedures threads
all_nest [] threads k i j n e = record { flat = tt; threads_are = threads_nest threads i j n e }
all_nest (body ∷ procedures) threads k i j n e =
    let rest = numbered_lines (k + 1) procedures ++ flat_map thread_lines threads in
    let parted : (procedure_lines k body ++ numbered_lines (k + 1) procedures) ++ flat_map thread_lines threads ≡ lines.Procedure k ∷ (body_lines body ++ (lines.End ∷ rest)) =
    append_assoc (procedure_lines k body) (numbered_lines (k + 1) procedures) (flat_map thread_lines threads) ∙ ap (λ l. lines.Procedure k ∷ l) (append_assoc (body_lines body) (lines.End ∷ []) rest) in
    let moved = begins ((j == 0) && (k == i)) k i j (body_lines body ++ (lines.End ∷ rest)) n (ap (nested_all (Some (nest [] i j))) (sym parted) ∙ e) in
    let b = body_stays body (InProcedure k) i j (lines.End ∷ rest) n moved in
    let r = all_nest procedures threads (k + 1) (i + 1) j n b.goes_on in
    record { flat = (b.flat, r.flat); threads_are = r.threads_are }

bodies_flat : (procedures : List ProcedureTree) → AllByRecursion IsFlat (bodies_of procedures) → AllByRecursion (λ (p : ProcedureTree). IsFlat p.body) procedures
bodies_flat [] h = tt
bodies_flat (p ∷ procedures) h = (h.0, bodies_flat procedures h.1)

some_nest : (ls : List Line) (o : Option Nest) → nested_all (Some start) ls ≡ o → all_closed o ≡ true → (n : Nest) × (nested_all (Some start) ls ≡ Some n)
some_nest ls None e closed = absurd (false≢true closed)
some_nest ls (Some n) e closed = (n, e)

-- lines that nest are those of a tree whose blocks are not too deep, and whose threads have no line of a procedure
pub tree_nests : (s : Tree) → nests (script_lines s) ≡ true → IsNested s
unfolding script_lines
tree_nests s e =
    let n = some_nest (script_lines s) (nested_all (Some start) (script_lines s)) refl e in
    let all = all_nest (bodies_of s.procedures) s.threads 0 0 0 n.0 n.1 in
    record { procedures = bodies_flat s.procedures all.flat; threads = all.threads_are.flat; no_return = all.threads_are.no_return }
