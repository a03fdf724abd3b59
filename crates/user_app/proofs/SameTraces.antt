-- Bodies of the same lines have the same traces.
use Rattle.std.proofs.Common.{◌≡◌, ℕ, ◌-◌, Bool, true, false, List, [], ◌∷◌, ◌++◌, refl, sym, ap, ◌∙◌, subst}
use Rattle.std.specs.Prelude.{⊤, ◌==◌, if◌then◌else◌}
use Rattle.std.proofs.lemmas.Bool.{false≢true}
use Rattle.user_model.specs.declared.call.Call.{Call}
use Rattle.user_model.specs.declared.entry.Answer.{Answer}
use Rattle.script_tree.specs.declared.operand.Test.{Test}
use Rattle.script_tree.specs.declared.statement.Statement.{Statement}
use Rattle.script_tree.specs.declared.statement.Statement.TheVariants.{Let, Compute, If', IfElse', While', Return, Call as CallOf, Sleep, Create, Destroy, Compound as CompoundOf, Default as DefaultOf}
use Rattle.script_tree.specs.declared.variables.Variables.{Variables}
use Rattle.script_tree.specs.Tree.{Tree}
use Rattle.script_tree.specs.Values.{holds}
use Rattle.script_tree.specs.Pieces.{Piece, Lines, One, PassEnd, Running, State, Going, Returning, Given, Step, Becomes, Asks, Trace, End}
use Rattle.script_tree.specs.Steps.{statement, begins, returns_to, takes, step, follows}
use Rattle.script_tree.specs.Traces.{Makes, over, silent, entry, cut, IsTrace, program}
use Rattle.script_lines.specs.declared.line.Line.TheVariants as lines
use Rattle.script_text.specs.Lines.{statement_lines, body_lines, bodies_of}
use Rattle.user_app.proofs.SameBodies.{line_of, lines_behind, some_line, statement_apart, same_items, only_end, else_and_end, end_no_else, SameBodies, same_body, same_procedure}

-- pieces of the same lines, and all others but themselves
data SamePiece : Piece → Piece → Type 0 where
  same_lines : {xs ys : List Statement} → body_lines xs ≡ body_lines ys → SamePiece (Lines xs) (Lines ys)
  same_one : {x y : Statement} → statement_lines x ≡ statement_lines y → SamePiece (One x) (One y)
  same_pass : {x y : Statement} {n : ℕ} → statement_lines x ≡ statement_lines y → SamePiece (PassEnd x n) (PassEnd y n)
  itself : {p : Piece} → SamePiece p p

abbrev SamePieces : List Piece → List Piece → Type 0
SamePieces [] [] = ⊤
SamePieces (p ∷ ps) (q ∷ qs) = SamePiece p q × SamePieces ps qs
SamePieces ps qs = ⊥

-- the same call, or pieces of the same lines and the same state
abbrev SameStep : Step → Step → Type 0
SameStep (Becomes ps st) (Becomes qs st') = SamePieces ps qs × (st ≡ st')
SameStep (Asks c) (Asks d) = c ≡ d
SameStep x y = ⊥

themselves : (ps : List Piece) → SamePieces ps ps
themselves [] = tt
themselves (p ∷ ps) = (itself, themselves ps)

step_itself : (x : Step) → SameStep x x
step_itself (Becomes ps st) = (themselves ps, refl)
step_itself (Asks c) = refl

one_after_another : (ps qs rs vs : List Piece) → SamePieces ps qs → SamePieces rs vs → SamePieces (ps ++ rs) (qs ++ vs)
one_after_another [] [] rs vs h k = k
one_after_another [] (q ∷ qs) rs vs h k = absurd h
one_after_another (p ∷ ps) [] rs vs h k = absurd h
one_after_another (p ∷ ps) (q ∷ qs) rs vs h k = (h.0, one_after_another ps qs rs vs h.1 k)

-- ---- the steps of statements

either : (b c : Bool) (x y z w : Step) → b ≡ c → SameStep x z → SameStep y w → SameStep (if b then x else y) (if c then z else w)
either true true x y z w e h k = h
either true false x y z w e h k = absurd (false≢true (sym e))
either false true x y z w e h k = absurd (false≢true e)
either false false x y z w e h k = k

either_lines : (b c : Bool) (x y z w : List Statement) → b ≡ c → body_lines x ≡ body_lines z → body_lines y ≡ body_lines w → body_lines (if b then x else y) ≡ body_lines (if c then z else w)
either_lines true true x y z w e h k = h
either_lines true false x y z w e h k = absurd (false≢true (sym e))
either_lines false true x y z w e h k = absurd (false≢true e)
either_lines false false x y z w e h k = k

same_if : (t u : Test) (v : Variables) → lines.If t ≡ lines.If u → holds t v ≡ holds u v
same_if t u v e = let f : t ≡ u = cc in ap (λ (x : Test). holds x v) f

same_while : (t u : Test) (v : Variables) → lines.While t ≡ lines.While u → holds t v ≡ holds u v
same_while t u v e = let f : t ≡ u = cc in ap (λ (x : Test). holds x v) f

-- a statement without a body is known by its line
alike : (x y : Statement) (v : Variables) (n : ℕ) → x ≡ y → SameStep (statement x v n) (statement y v n)
alike x y v n e = subst (λ z. SameStep (statement x v n) (statement z v n)) e (step_itself (statement x v n))

same_statement : (x y : Statement) (v : Variables) (n : ℕ) → statement_lines x ≡ statement_lines y → SameStep (statement x v n) (statement y v n)
same_statement (Let x a) (Let y b) v n e = let f : lines.Let x a ≡ lines.Let y b = line_of e in alike (Let x a) (Let y b) v n cc
same_statement (Compute x a op c) (Compute y b oq d) v n e =
    let f : lines.Compute x a op c ≡ lines.Compute y b oq d = line_of e in alike (Compute x a op c) (Compute y b oq d) v n cc
same_statement (If' t k a) (If' u l b) v n e =
    either (holds t v) (holds u v) _ _ _ _ (same_if t u v (line_of e)) ((same_lines (same_items a b (only_end a b (lines_behind e))), tt), refl) (tt, refl)
same_statement (If' t k a) (IfElse' u l b m d) v n e = absurd (end_no_else a b d (lines_behind e))
same_statement (IfElse' t k a j c) (If' u l b) v n e = absurd (end_no_else b a c (sym (lines_behind e)))
same_statement (IfElse' t k a j c) (IfElse' u l b m d) v n e =
    let f = else_and_end a b c d (lines_behind e) in
    ((same_lines (either_lines (holds t v) (holds u v) _ _ _ _ (same_if t u v (line_of e)) (same_items a b f.0) (same_items c d f.1)), tt), refl)
same_statement (While' t k a) (While' u l b) v n e =
    either (holds t v) (holds u v) _ _ _ _ (same_while t u v (line_of e)) ((same_lines (same_items a b (only_end a b (lines_behind e))), (same_pass e, tt)), refl) (tt, refl)
same_statement (Return a) (Return b) v n e = let f : lines.Return a ≡ lines.Return b = line_of e in alike (Return a) (Return b) v n cc
same_statement (CallOf c) (CallOf d) v n e = let f : lines.Call c ≡ lines.Call d = line_of e in alike (CallOf c) (CallOf d) v n cc
same_statement (Sleep a) (Sleep b) v n e = let f : lines.Sleep a ≡ lines.Sleep b = line_of e in alike (Sleep a) (Sleep b) v n cc
same_statement (Create c) (Create d) v n e = let f : lines.Create c ≡ lines.Create d = line_of e in alike (Create c) (Create d) v n cc
same_statement (Destroy a) (Destroy b) v n e = let f : lines.Destroy a ≡ lines.Destroy b = line_of e in alike (Destroy a) (Destroy b) v n cc
same_statement (CompoundOf c) (CompoundOf d) v n e = let f : lines.Compound c ≡ lines.Compound d = line_of e in alike (CompoundOf c) (CompoundOf d) v n cc
same_statement DefaultOf DefaultOf v n e = step_itself (statement DefaultOf v n)
same_statement x y v n e = absurd cc

-- ---- the steps of pieces

module _ (s t : Tree) (procedures : SameBodies (bodies_of s.procedures) (bodies_of t.procedures)) where
  lines_begin : (xs ys : List Statement) (v : Variables) (n : ℕ) → body_lines xs ≡ body_lines ys → SameStep (begins s (Lines xs) v n) (begins t (Lines ys) v n)
  lines_begin [] [] v n h = (tt, refl)
  lines_begin [] (y ∷ ys) v n h = absurd (some_line y (body_lines ys) h)
  lines_begin (x ∷ xs) [] v n h = absurd (some_line x (body_lines xs) (sym h))
  lines_begin (x ∷ xs) (y ∷ ys) v n h =
      let f = statement_apart x y (body_lines xs) (body_lines ys) h in ((same_one f.0, (same_lines f.1, tt)), refl)

  -- of the tree a piece takes the statements of its procedure alone
  begins_itself : (p : Piece) (v : Variables) (n : ℕ) → SameStep (begins s p v n) (begins t p v n)
  begins_itself (Lines xs) v n = lines_begin xs xs v n refl
  begins_itself (Running run) v n = ((same_lines (same_procedure s.procedures t.procedures run.procedure procedures), (itself, (itself, tt))), refl)
  begins_itself p v n = step_itself (begins s p v n)

  same_begins : {p q : Piece} (v : Variables) (n : ℕ) → SamePiece p q → SameStep (begins s p v n) (begins t q v n)
  same_begins v n (same_lines {xs = xs} {ys = ys} e) = lines_begin xs ys v n e
  same_begins v n (same_one {x = x} {y = y} e) = same_statement x y v n e
  same_begins v n (same_pass {n = i} e) = either (n == i) (n == i) _ _ _ _ refl ((itself, (itself, (same_one e, tt))), refl) ((same_one e, tt), refl)
  same_begins v n (itself {p = p}) = begins_itself p v n

  same_returns : {p q : Piece} (v : Variables) (x : ℕ) → SamePiece p q → SameStep (returns_to p v x) (returns_to q v x)
  same_returns v x (same_lines e) = (tt, refl)
  same_returns v x (same_one e) = (tt, refl)
  same_returns v x (same_pass e) = (tt, refl)
  same_returns v x (itself {p = p}) = step_itself (returns_to p v x)

  same_takes : {p q : Piece} (v : Variables) (a : Answer) (x : ℕ) → SamePiece p q → SameStep (takes p v a x) (takes q v a x)
  same_takes v a x (same_lines e) = (tt, refl)
  same_takes v a x (same_one e) = (tt, refl)
  same_takes v a x (same_pass e) = (tt, refl)
  same_takes v a x (itself {p = p}) = step_itself (takes p v a x)

  same_step : (p q : Piece) (st : State) (n : ℕ) → SamePiece p q → SameStep (step s p st n) (step t q st n)
  same_step p q (Going v) n h = same_begins v n h
  same_step p q (Returning v x) n h = same_returns v x h
  same_step p q (Given v a x) n h = same_takes v a x h

  -- ---- traces

  silent_too : (p : Piece) (left ps : List Piece) (st st' : State) (n : ℕ) (tr : Trace) (e : End) (x : Step) → step t p st n ≡ x → SameStep (Becomes ps st') x
      → ((rs : List Piece) → SamePieces ps rs → Makes t (rs ++ left) st' n tr e) → Makes t (p ∷ left) st n tr e
  silent_too p left ps st st' n tr e (Becomes rs st'') f h go = silent rs st' (f ∙ ap (Becomes rs) (sym h.1)) (go rs h.0)
  silent_too p left ps st st' n tr e (Asks c) f h go = absurd h

  asks_too : (p : Piece) (st : State) (n : ℕ) (call : Call) (x : Step) → step t p st n ≡ x → SameStep (Asks call) x → step t p st n ≡ Asks call
  asks_too p st n call (Becomes rs st') f h = absurd h
  asks_too p st n call (Asks c) f h = f ∙ ap (λ (d : Call). Asks d) (sym h)

  -- pieces of the same lines make the same trace
  makes_too : {ps : List Piece} {st : State} {n : ℕ} {tr : Trace} {e : End} → Makes s ps st n tr e → (qs : List Piece) → SamePieces ps qs → Makes t qs st n tr e
  makes_too over [] h = over
  makes_too over (q ∷ qs) h = absurd h
  makes_too (silent ps st' f m) [] h = absurd h
  makes_too (silent {p = p} {left = left} {st = st} {n = n} {tr = tr} {e = e} ps st' f m) (q ∷ qs) h =
      silent_too q qs ps st st' n tr e (step t q st n) refl (subst (λ x. SameStep x (step t q st n)) f (same_step p q st n h.0))
      (λ rs k. makes_too m (rs ++ qs) (one_after_another ps rs left qs k h.1))
  makes_too (entry call a f m) [] h = absurd h
  makes_too (entry {p = p} {left = left} {st = st} {n = n} call a f m) (q ∷ qs) h =
      entry call a (asks_too q st n call (step t q st n) refl (subst (λ x. SameStep x (step t q st n)) f (same_step p q st n h.0)))
      (makes_too m (follows call a ++ qs) (one_after_another (follows call a) (follows call a) left qs (themselves (follows call a)) h.1))
  makes_too (cut call f) [] h = absurd h
  makes_too (cut {p = p} {left = left} {st = st} {n = n} call f) (q ∷ qs) h =
      cut call (asks_too q st n call (step t q st n) refl (subst (λ x. SameStep x (step t q st n)) f (same_step p q st n h.0)))

  -- threads of the same lines have the same traces
  pub same_trace : (u : ℕ) (tr : Trace) (e : End) → SameBodies s.threads t.threads → IsTrace s u tr e → IsTrace t u tr e
  same_trace u tr e h m = makes_too m (program t u) (same_lines (same_body s.threads t.threads (u - 1) h), (itself, tt))
