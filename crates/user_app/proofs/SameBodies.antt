-- The lines of statements tell them apart.
use Rattle.std.proofs.Common.{◌≡◌, ℕ, zero, suc, List, [], ◌∷◌, ◌++◌, length, get_or, refl, sym, ap, ◌∙◌, subst, append_assoc}
use Rattle.std.specs.Prelude.{⊤, ◌+◌, slice_get}
use Rattle.std.specs.List.{flat_map}
use Rattle.script_tree.specs.declared.statement.Statement.{Statement, Row_of-Statement, end_of-Statement, more_of-Statement, items-the_row-Statement}
use Rattle.script_tree.specs.declared.statement.Statement.TheVariants.{Let, Compute, If', IfElse', While', Return, Call, Sleep, Create, Destroy, Compound, Default}
use Rattle.script_tree.specs.Tree.{ProcedureTree, statements_of}
use Rattle.script_lines.specs.declared.line.Line.{Line}
use Rattle.script_lines.specs.declared.line.Line.TheVariants as lines
use Rattle.script_text.specs.Lines.{statement_lines, row_lines, body_lines, thread_lines, numbered_lines, bodies_of}

pub line_of : {x y : Line} {xs ys : List Line} → x ∷ xs ≡ y ∷ ys → x ≡ y
line_of e = cc

pub lines_behind : {x y : Line} {xs ys : List Line} → x ∷ xs ≡ y ∷ ys → xs ≡ ys
lines_behind e = cc

-- the first line ends a block, or its first half
abbrev IsShut : List Line → Type 0
IsShut [] = ⊥
IsShut (lines.End ∷ ls) = ⊤
IsShut (lines.Else ∷ ls) = ⊤
IsShut (l ∷ ls) = ⊥

-- a statement's first line doesn't
not_shut : (x : Statement) (r : List Line) → IsShut (statement_lines x ++ r) → ⊥
not_shut (Let v a) r h = h
not_shut (Compute v a op b) r h = h
not_shut (If' t k a) r h = h
not_shut (IfElse' t k a j b) r h = h
not_shut (While' t k a) r h = h
not_shut (Return a) r h = h
not_shut (Call c) r h = h
not_shut (Sleep a) r h = h
not_shut (Create c) r h = h
not_shut (Destroy a) r h = h
not_shut (Compound c) r h = h
not_shut Default r h = h

-- and there is one
pub some_line : (x : Statement) (r : List Line) → [] ≡ statement_lines x ++ r → ⊥
some_line (Let v a) r e = absurd cc
some_line (Compute v a op b) r e = absurd cc
some_line (If' t k a) r e = absurd cc
some_line (IfElse' t k a j b) r e = absurd cc
some_line (While' t k a) r e = absurd cc
some_line (Return a) r e = absurd cc
some_line (Call c) r e = absurd cc
some_line (Sleep a) r e = absurd cc
some_line (Create c) r e = absurd cc
some_line (Destroy a) r e = absurd cc
some_line (Compound c) r e = absurd cc
some_line Default r e = absurd cc

-- lines of a first part and a second, which are told apart
abbrev Apart : List Line → List Line → List Line → List Line → Type 0
Apart a b r q = (a ≡ b) × (r ≡ q)

one_line : (x y : Line) (r q : List Line) → x ∷ r ≡ y ∷ q → Apart (x ∷ []) (y ∷ []) r q
one_line x y r q e = (ap (λ (l : Line). let ls : List Line = l ∷ [] in ls) (line_of e), lines_behind e)

-- a block: its first line, its body, and from its end on the rest
block : (x y : Line) (a b : List Line) (r q : List Line) → x ≡ y → a ≡ b → lines.End ∷ r ≡ lines.End ∷ q → Apart (x ∷ (a ++ lines.End ∷ [])) (y ∷ (b ++ lines.End ∷ [])) r q
block x y a b r q e f g =
    (ap (λ (l : Line). l ∷ (a ++ lines.End ∷ [])) e ∙ ap (λ (l : List Line). y ∷ (l ++ lines.End ∷ [])) f, lines_behind g)

two_bodies : (x y : Line) (a b c d : List Line) (r q : List Line) → x ≡ y → a ≡ b → c ≡ d → lines.End ∷ r ≡ lines.End ∷ q
    → Apart (x ∷ (a ++ lines.Else ∷ (c ++ lines.End ∷ []))) (y ∷ (b ++ lines.Else ∷ (d ++ lines.End ∷ []))) r q
two_bodies x y a b c d r q e f g h = (
  ap (λ (l : Line). l ∷ (a ++ lines.Else ∷ (c ++ lines.End ∷ []))) e
      ∙ ap (λ (l : List Line). y ∷ (l ++ lines.Else ∷ (c ++ lines.End ∷ []))) f
      ∙ ap (λ (l : List Line). y ∷ (b ++ lines.Else ∷ (l ++ lines.End ∷ []))) g,
  lines_behind h,
)

-- both sides grouped to the right
regrouped : (a x r b y q : List Line) → (a ++ x) ++ r ≡ (b ++ y) ++ q → a ++ (x ++ r) ≡ b ++ (y ++ q)
regrouped a x r b y q e = sym (append_assoc a x r) ∙ e ∙ append_assoc b y q

joined : (a b c d r q : List Line) → a ≡ b → Apart c d r q → Apart (a ++ c) (b ++ d) r q
joined a b c d r q e h = (ap (λ (l : List Line). l ++ c) e ∙ ap (λ (l : List Line). b ++ l) h.0, h.1)

mutual
  -- a statement's lines end where another's would
  pub statement_apart : (x y : Statement) (r q : List Line) → statement_lines x ++ r ≡ statement_lines y ++ q → Apart (statement_lines x) (statement_lines y) r q
  statement_apart (Let v a) (Let w b) r q e = one_line _ _ r q e
  statement_apart (Compute v a op b) (Compute w c oq d) r q e = one_line _ _ r q e
  statement_apart (If' t k a) (If' u l b) r q e =
      let f = row_apart a b (lines.End ∷ r) (lines.End ∷ q) tt tt (regrouped (row_lines a) (lines.End ∷ []) r (row_lines b) (lines.End ∷ []) q (lines_behind e)) in
      block (lines.If t) (lines.If u) (row_lines a) (row_lines b) r q (line_of e) f.0 f.1
  statement_apart (If' t k a) (IfElse' u l b m c) r q e =
      let f = row_apart a b (lines.End ∷ r) (lines.Else ∷ ((row_lines c ++ lines.End ∷ []) ++ q)) tt tt (regrouped (row_lines a) (lines.End ∷ []) r (row_lines b) (lines.Else ∷ (row_lines c ++ lines.End ∷ [])) q (lines_behind e)) in
      let clash : lines.End ≡ lines.Else = line_of f.1 in
      absurd cc
  statement_apart (IfElse' t k a j c) (If' u l b) r q e =
      let f = row_apart a b (lines.Else ∷ ((row_lines c ++ lines.End ∷ []) ++ r)) (lines.End ∷ q) tt tt (regrouped (row_lines a) (lines.Else ∷ (row_lines c ++ lines.End ∷ [])) r (row_lines b) (lines.End ∷ []) q (lines_behind e)) in
      let clash : lines.Else ≡ lines.End = line_of f.1 in
      absurd cc
  statement_apart (IfElse' t k a j c) (IfElse' u l b m d) r q e =
      let f = row_apart a b (lines.Else ∷ ((row_lines c ++ lines.End ∷ []) ++ r)) (lines.Else ∷ ((row_lines d ++ lines.End ∷ []) ++ q)) tt tt (regrouped (row_lines a) (lines.Else ∷ (row_lines c ++ lines.End ∷ [])) r (row_lines b) (lines.Else ∷ (row_lines d ++ lines.End ∷ [])) q (lines_behind e)) in
      let g = row_apart c d (lines.End ∷ r) (lines.End ∷ q) tt tt (regrouped (row_lines c) (lines.End ∷ []) r (row_lines d) (lines.End ∷ []) q (lines_behind f.1)) in
      two_bodies (lines.If t) (lines.If u) (row_lines a) (row_lines b) (row_lines c) (row_lines d) r q (line_of e) f.0 g.0 g.1
  statement_apart (While' t k a) (While' u l b) r q e =
      let f = row_apart a b (lines.End ∷ r) (lines.End ∷ q) tt tt (regrouped (row_lines a) (lines.End ∷ []) r (row_lines b) (lines.End ∷ []) q (lines_behind e)) in
      block (lines.While t) (lines.While u) (row_lines a) (row_lines b) r q (line_of e) f.0 f.1
  statement_apart (Return a) (Return b) r q e = one_line _ _ r q e
  statement_apart (Call c) (Call d) r q e = one_line _ _ r q e
  statement_apart (Sleep a) (Sleep b) r q e = one_line _ _ r q e
  statement_apart (Create c) (Create d) r q e = one_line _ _ r q e
  statement_apart (Destroy a) (Destroy b) r q e = one_line _ _ r q e
  statement_apart (Compound c) (Compound d) r q e = one_line _ _ r q e
  statement_apart Default Default r q e = one_line _ _ r q e
  statement_apart x y r q e = absurd cc

  -- the lines of the statements inside of one end where its block does
  pub row_apart : {m n : _} (a : Row_of-Statement m) (b : Row_of-Statement n) (r q : List Line) → IsShut r → IsShut q → row_lines a ++ r ≡ row_lines b ++ q → Apart (row_lines a) (row_lines b) r q
  row_apart end_of-Statement end_of-Statement r q h k e = (refl, e)
  row_apart end_of-Statement (more_of-Statement y b) r q h k e =
      absurd (not_shut y (row_lines b ++ q) (subst IsShut (e ∙ append_assoc (statement_lines y) (row_lines b) q) h))
  row_apart (more_of-Statement x a) end_of-Statement r q h k e =
      absurd (not_shut x (row_lines a ++ r) (subst IsShut (sym e ∙ append_assoc (statement_lines x) (row_lines a) r) k))
  row_apart (more_of-Statement x a) (more_of-Statement y b) r q h k e =
      let f = statement_apart x y (row_lines a ++ r) (row_lines b ++ q) (regrouped (statement_lines x) (row_lines a) r (statement_lines y) (row_lines b) q e) in
      joined (statement_lines x) (statement_lines y) (row_lines a) (row_lines b) r q f.0 (row_apart a b r q h k f.1)

-- the lines of a body end where its block does
body_apart : (xs ys : List Statement) (r q : List Line) → IsShut r → IsShut q → body_lines xs ++ r ≡ body_lines ys ++ q → Apart (body_lines xs) (body_lines ys) r q
body_apart [] [] r q h k e = (refl, e)
body_apart [] (y ∷ ys) r q h k e =
    absurd (not_shut y (body_lines ys ++ q) (subst IsShut (e ∙ append_assoc (statement_lines y) (body_lines ys) q) h))
body_apart (x ∷ xs) [] r q h k e =
    absurd (not_shut x (body_lines xs ++ r) (subst IsShut (sym e ∙ append_assoc (statement_lines x) (body_lines xs) r) k))
body_apart (x ∷ xs) (y ∷ ys) r q h k e =
    let f = statement_apart x y (body_lines xs ++ r) (body_lines ys ++ q) (regrouped (statement_lines x) (body_lines xs) r (statement_lines y) (body_lines ys) q e) in
    joined (statement_lines x) (statement_lines y) (body_lines xs) (body_lines ys) r q f.0 (body_apart xs ys r q h k f.1)

-- the lines of a row are those of its statements
row_is : {m : _} (row : Row_of-Statement m) → row_lines row ≡ body_lines (items-the_row-Statement _ row)
row_is end_of-Statement = refl
row_is (more_of-Statement s rest) = ap (λ (l : List Line). statement_lines s ++ l) (row_is rest)

-- what equal lines before the end of a block, or of its first half, say of its bodies
pub same_items : {m n : _} (a : Row_of-Statement m) (b : Row_of-Statement n) → row_lines a ≡ row_lines b → body_lines (items-the_row-Statement _ a) ≡ body_lines (items-the_row-Statement _ b)
same_items a b e = sym (row_is a) ∙ e ∙ row_is b

pub only_end : {m n : _} (a : Row_of-Statement m) (b : Row_of-Statement n) → row_lines a ++ lines.End ∷ [] ≡ row_lines b ++ lines.End ∷ [] → row_lines a ≡ row_lines b
only_end a b e = (row_apart a b (lines.End ∷ []) (lines.End ∷ []) tt tt e).0

pub else_and_end : {m n i j : _} (a : Row_of-Statement m) (b : Row_of-Statement n) (c : Row_of-Statement i) (d : Row_of-Statement j)
    → row_lines a ++ lines.Else ∷ (row_lines c ++ lines.End ∷ []) ≡ row_lines b ++ lines.Else ∷ (row_lines d ++ lines.End ∷ []) → (row_lines a ≡ row_lines b) × (row_lines c ≡ row_lines d)
else_and_end a b c d e =
    let f = row_apart a b (lines.Else ∷ (row_lines c ++ lines.End ∷ [])) (lines.Else ∷ (row_lines d ++ lines.End ∷ [])) tt tt e in
    (f.0, only_end c d (lines_behind f.1))

pub end_no_else : {m n i : _} (a : Row_of-Statement m) (b : Row_of-Statement n) (d : Row_of-Statement i)
    → row_lines a ++ lines.End ∷ [] ≡ row_lines b ++ lines.Else ∷ (row_lines d ++ lines.End ∷ []) → ⊥
end_no_else a b d e =
    let f = row_apart a b (lines.End ∷ []) (lines.Else ∷ (row_lines d ++ lines.End ∷ [])) tt tt e in
    let clash : lines.End ≡ lines.Else = line_of f.1 in
    cc

-- bodies of the same lines, one after another
abbrev pub SameBodies : List (List Statement) → List (List Statement) → Type 0
SameBodies [] [] = ⊤
SameBodies (x ∷ xs) (y ∷ ys) = (body_lines x ≡ body_lines y) × SameBodies xs ys
SameBodies xs ys = ⊥

pub bodies_apart : (xs ys : List (List Statement)) → flat_map thread_lines xs ≡ flat_map thread_lines ys → SameBodies xs ys
bodies_apart [] [] e = tt
bodies_apart [] (y ∷ ys) e = absurd cc
bodies_apart (x ∷ xs) [] e = absurd cc
bodies_apart (x ∷ xs) (y ∷ ys) e =
    let f = body_apart x y (lines.End ∷ flat_map thread_lines xs) (lines.End ∷ flat_map thread_lines ys) tt tt (regrouped (body_lines x) (lines.End ∷ []) (flat_map thread_lines xs) (body_lines y) (lines.End ∷ []) (flat_map thread_lines ys) (lines_behind e)) in
    (f.0, bodies_apart xs ys (lines_behind f.1))

no_procedure : (ts : List (List Statement)) (k : ℕ) (r : List Line) → flat_map thread_lines ts ≡ lines.Procedure k ∷ r → ⊥
no_procedure [] k r e = absurd cc
no_procedure (t ∷ ts) k r e = absurd cc

-- the body of a procedure, and from its end on the rest
to_the_right : (a b c : List Line) → ((a ++ lines.End ∷ []) ++ b) ++ c ≡ a ++ (lines.End ∷ (b ++ c))
to_the_right a b c = append_assoc (a ++ lines.End ∷ []) b c ∙ append_assoc a (lines.End ∷ []) (b ++ c)

-- the lines of procedures that are numbered from a number on end where the threads begin
pub procedures_apart : (k : ℕ) (xs ys ts us : List (List Statement)) → numbered_lines k xs ++ flat_map thread_lines ts ≡ numbered_lines k ys ++ flat_map thread_lines us
    → SameBodies xs ys × (flat_map thread_lines ts ≡ flat_map thread_lines us)
procedures_apart k [] [] ts us e = (tt, e)
procedures_apart k [] (y ∷ ys) ts us e = absurd (no_procedure ts k _ e)
procedures_apart k (x ∷ xs) [] ts us e = absurd (no_procedure us k _ (sym e))
procedures_apart k (x ∷ xs) (y ∷ ys) ts us e =
    let rest : List Line = numbered_lines (k + 1) xs ++ flat_map thread_lines ts in
    let other : List Line = numbered_lines (k + 1) ys ++ flat_map thread_lines us in
    let tail : body_lines x ++ (lines.End ∷ rest) ≡ body_lines y ++ (lines.End ∷ other) =
    sym (to_the_right (body_lines x) (numbered_lines (k + 1) xs) (flat_map thread_lines ts)) ∙ lines_behind e ∙ to_the_right (body_lines y) (numbered_lines (k + 1) ys) (flat_map thread_lines us) in
    let f = body_apart x y (lines.End ∷ rest) (lines.End ∷ other) tt tt tail in
    let below = procedures_apart (k + 1) xs ys ts us (lines_behind f.1) in
    ((f.0, below.0), below.1)

-- procedures of the same bodies, by their numbers
pub same_procedure : (ps qs : List ProcedureTree) (k : ℕ) → SameBodies (bodies_of ps) (bodies_of qs) → body_lines (statements_of (slice_get ps k)) ≡ body_lines (statements_of (slice_get qs k))
same_procedure [] [] k h = refl
same_procedure [] (q ∷ qs) k h = absurd h
same_procedure (p ∷ ps) [] k h = absurd h
same_procedure (p ∷ ps) (q ∷ qs) zero h = h.0
same_procedure (p ∷ ps) (q ∷ qs) (suc k) h = same_procedure ps qs k h.1

pub same_count : (xs ys : List (List Statement)) → SameBodies xs ys → length xs ≡ length ys
same_count [] [] h = refl
same_count [] (y ∷ ys) h = absurd h
same_count (x ∷ xs) [] h = absurd h
same_count (x ∷ xs) (y ∷ ys) h = ap (λ (n : ℕ). suc n) (same_count xs ys h.1)

pub same_body : (xs ys : List (List Statement)) (i : ℕ) → SameBodies xs ys → body_lines (get_or xs i []) ≡ body_lines (get_or ys i [])
same_body [] [] i h = refl
same_body [] (y ∷ ys) i h = absurd h
same_body (x ∷ xs) [] i h = absurd h
same_body (x ∷ xs) (y ∷ ys) zero h = h.0
same_body (x ∷ xs) (y ∷ ys) (suc i) h = same_body xs ys i h.1
