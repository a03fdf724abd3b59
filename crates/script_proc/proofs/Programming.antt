-- Statements put behind lines.
use Rattle.std.proofs.Common.{◌≡◌, ℕ, zero, suc, ◌+◌, ◌-◌, ◌<◌, List, [], ◌∷◌, ◌++◌, length, drop, refl, sym, ap, ◌∙◌, subst, arith, append_assoc, append-nil, length-append, drop_at, take, get_or}
use Rattle.std.specs.Borrow.{Bor}
use Rattle.std.proofs.lemmas.List.{take_more}
use Rattle.std.specs.Prelude.{slice_get, slice_set, slice_index_or, unwrap_or}
use Rattle.script_tree.specs.declared.operand.Test.{Test}
use Rattle.script_tree.specs.declared.statement.Statement.{Statement, items-the_row-Statement}
use Rattle.script_tree.specs.declared.statement.Statement.TheVariants as tree
use Rattle.script_tree.specs.Tree.{Tree, ProcedureTree, statements_of}
use Rattle.script_tree.specs.Pieces.{Piece, Lines}
use Rattle.script_proc.specs.declared.program.Line.{Line}
use Rattle.script_proc.specs.declared.program.Line.TheVariants.{If, Else, While, End}
use Rattle.script_proc.specs.declared.program.Program.{Program}
use Rattle.script_proc.specs.Programs.{Says, Stands, alone, branch, branches, loop, out, over_else, end, Codes, IsPut, Grows, StartsAt, EachStarts, procedure_body, itself, IsProgramOf}

seam : (old : List Line) (a b : Line) (code : List Line) → slice_set (old ++ a ∷ code) (length old) b ≡ old ++ b ∷ code
seam [] a b code = refl
seam (x ∷ old) a b code = ap (λ xs. x ∷ xs) (seam old a b code)

-- a line in the middle set to another
pub set_line : (old : List Line) (a b : Line) (code : List Line) (from : ℕ) (lines : List Line) → from ≡ length old → lines ≡ old ++ a ∷ code → slice_set lines from b ≡ old ++ b ∷ code
set_line old a b code from lines e f = ap (λ xs. slice_set xs from b) f ∙ ap (λ k. slice_set (old ++ a ∷ code) k b) e ∙ seam old a b code

-- the lines of statements one after another
pub codes_on : (one two : List Line) (first second : List Statement) → Codes one first → Codes two second → Codes (one ++ two) (first ++ second)
codes_on one two first second h g = record {
  by = λ rest more left k.
      subst (λ ls. Stands ls (Lines ((first ++ second) ++ more) ∷ left)) (sym (append_assoc one two rest))
      (subst (λ xs. Stands (one ++ (two ++ rest)) (Lines xs ∷ left)) (sym (append_assoc first second more))
      (h.by (two ++ rest) (second ++ more) left (g.by rest more left k)));
}

pub codes_nothing : Codes [] []
codes_nothing = record { by = λ rest more left k. k }

pub codes_alone : (line : Line) (line' : Statement) → Says line line' → Codes (line ∷ []) (line' ∷ [])
codes_alone line line' h = record { by = λ rest more left k. alone h k }

-- a body over what stands behind it
inner : (code : List Line) (body more : List Statement) (left : List Piece) (rest : List Line) → Codes code body → Stands rest (Lines more ∷ left) → Stands (code ++ rest) (Lines body ∷ Lines more ∷ left)
inner code body more left rest h k = subst (λ xs. Stands (code ++ rest) (Lines xs ∷ Lines more ∷ left)) (append-nil body) (h.by rest [] (Lines more ∷ left) (out k))

past : {A : Type 0} (code rest : List A) → drop (length code) (code ++ rest) ≡ rest
past code rest = drop_at code rest (length code) refl

pub codes_branch : (t : Bor Test) (k : _) (a : _) (code : List Line) (passed : ℕ) → passed ≡ length code → Codes code (items-the_row-Statement _ a) → Codes (If t passed ∷ code) (tree.If' t.now k a ∷ [])
codes_branch t k a code passed e h = record {
  by = λ rest more left g.
      branch (inner code (items-the_row-Statement _ a) more left rest h g)
      (subst (λ ls. Stands ls (Lines more ∷ left)) (sym (ap (λ i. drop i (code ++ rest)) e ∙ past code rest)) g);
}

pub codes_branches : (t : Bor Test) (k : _) (a : _) (j : _) (b : _) (one two : List Line) (first second : ℕ) → first ≡ length one + 1 → second ≡ length two → Codes one (items-the_row-Statement _ a) → Codes two (items-the_row-Statement _ b) → Codes (If t first ∷ (one ++ Else second ∷ two)) (tree.IfElse' t.now k a j b ∷ [])
codes_branches t k a j b one two first second e f h g = record {
  by = λ rest more left x.
      let other : Stands (two ++ rest) (Lines (items-the_row-Statement _ b) ∷ Lines more ∷ left) = inner two (items-the_row-Statement _ b) more left rest g x in
      let leads : Stands (Else second ∷ (two ++ rest)) (Lines [] ∷ Lines more ∷ left) = over_else (subst (λ ls. Stands ls (Lines more ∷ left)) (sym (ap (λ i. drop i (two ++ rest)) f ∙ past two rest)) x) in
      let all : (one ++ Else second ∷ two) ++ rest ≡ one ++ (Else second ∷ (two ++ rest)) = append_assoc one (Else second ∷ two) rest in
      let behind : drop first ((one ++ Else second ∷ two) ++ rest) ≡ two ++ rest =
      ap (λ ls. drop first ls) (all ∙ sym (append_assoc one (Else second ∷ []) (two ++ rest)))
      ∙ drop_at (one ++ Else second ∷ []) (two ++ rest) first (length-append one (Else second ∷ []) ∙ sym e) in
      branches
      (subst (λ ls. Stands ls (Lines (items-the_row-Statement _ a) ∷ Lines more ∷ left)) (sym all)
      (subst (λ xs. Stands (one ++ (Else second ∷ (two ++ rest))) (Lines xs ∷ Lines more ∷ left)) (append-nil (items-the_row-Statement _ a)) (h.by (Else second ∷ (two ++ rest)) [] (Lines more ∷ left) leads)))
      (subst (λ ls. Stands ls (Lines (items-the_row-Statement _ b) ∷ Lines more ∷ left)) (sym behind) other);
}

whole : (code : List Line) (body : List Statement) (rest : List Line) → Codes code body → Stands (code ++ End ∷ rest) (Lines body ∷ [])
whole code body rest h = subst (λ xs. Stands (code ++ End ∷ rest) (Lines xs ∷ [])) (append-nil body) (h.by (End ∷ rest) [] [] end)

pub codes_loop : (t : Bor Test) (k : _) (a : _) (code : List Line) (passed : ℕ) → passed ≡ length code + 1 → Codes code (items-the_row-Statement _ a) → Codes (While t passed ∷ (code ++ End ∷ [])) (tree.While' t.now k a ∷ [])
codes_loop t k a code passed e h = record {
  by = λ rest more left x.
      let all : (code ++ End ∷ []) ++ rest ≡ code ++ End ∷ rest = append_assoc code (End ∷ []) rest in
      loop
      (subst (λ ls. Stands ls (Lines (items-the_row-Statement _ a) ∷ [])) (sym all) (whole code (items-the_row-Statement _ a) rest h))
      (subst (λ ls. Stands ls (Lines more ∷ left)) (sym (drop_at (code ++ End ∷ []) rest passed (length-append code (End ∷ []) ∙ sym e))) x);
}

-- a whole body begins where the lines ended
pub whole_starts : (old code new : List Line) (body : List Statement) (place : ℕ) → place ≡ length old → new ≡ (old ++ code) ++ End ∷ [] → Codes code body → StartsAt new place body
whole_starts old code new body place e f h more =
    let all : new ++ more ≡ old ++ (code ++ End ∷ more) = ap (λ ls. ls ++ more) f ∙ append_assoc (old ++ code) (End ∷ []) more ∙ append_assoc old code (End ∷ more) in
    subst (λ ls. Stands ls (Lines body ∷ [])) (sym (ap (λ ls. drop place ls) all ∙ drop_at old (code ++ End ∷ more) place (sym e))) (whole code body more h)

-- more lines behind them leave a body where it begins
pub starts_on : (old new : List Line) (place : ℕ) (body : List Statement) → Grows old new → StartsAt old place body → StartsAt new place body
starts_on old new place body g h more =
    subst (λ ls. Stands (drop place ls) (Lines body ∷ [])) (sym (ap (λ ls. ls ++ more) g.1 ∙ append_assoc old g.0 more)) (h (g.0 ++ more))

pub grows_on : (a b c : List Line) → Grows a b → Grows b c → Grows a c
grows_on a b c g h = (g.0 ++ h.0, h.1 ∙ ap (λ ls. ls ++ h.0) g.1 ∙ append_assoc a g.0 h.0)

module _ {A : Type 0} (body : A → List Statement) where
  pub each_on : (old new : List Line) (places : List ℕ) (xs : List A) → Grows old new → EachStarts body old places xs → EachStarts body new places xs
  each_on old new [] [] g h = tt
  each_on old new (place ∷ places) (x ∷ xs) g h = (starts_on old new place (body x) g h.0, each_on old new places xs g h.1)
  each_on old new [] (x ∷ xs) g h = absurd h
  each_on old new (place ∷ places) [] g h = absurd h

  -- one more
  pub each_more : (lines : List Line) (places : List ℕ) (xs : List A) (place : ℕ) (x : A) → EachStarts body lines places xs → StartsAt lines place (body x) → EachStarts body lines (places ++ place ∷ []) (xs ++ x ∷ [])
  each_more lines [] [] place x h g = (g, tt)
  each_more lines (q ∷ places) (y ∷ xs) place x h g = (h.0, each_more lines places xs place x h.1 g)
  each_more lines [] (y ∷ xs) place x h g = absurd h
  each_more lines (q ∷ places) [] place x h g = absurd h

  pub each_step : (mid lines : List Line) (places new : List ℕ) (xs : List A) (i place : ℕ) (x : A) (statements : List Statement) → i < length xs → x ≡ get_or xs i x → statements ≡ body x → EachStarts body mid places (take i xs) → Grows mid lines → StartsAt lines place statements → new ≡ places ++ place ∷ [] → EachStarts body lines new (take (i + 1) xs)
  each_step mid lines places new xs i place x statements h f is each g starts e =
      subst (λ ps. EachStarts body lines ps (take (i + 1) xs)) (sym e)
      (subst (λ ys. EachStarts body lines (places ++ place ∷ []) ys) (sym (take_more xs i x h ∙ ap (λ y. take i xs ++ y ∷ []) (sym f)))
      (each_more lines places (take i xs) place x (each_on mid lines places (take i xs) g each) (subst (λ ys. StartsAt lines place ys) is starts)))

-- the first line ends a body without statements
pub nothing_starts : (lines : List Line) → Grows (End ∷ []) lines → StartsAt lines 0 []
nothing_starts lines g = starts_on (End ∷ []) lines 0 [] g (λ more. end)

pub procedure_starts : (lines : List Line) (places : List ℕ) (xs : List ProcedureTree) (k : ℕ) → StartsAt lines 0 [] → EachStarts procedure_body lines places xs → StartsAt lines (unwrap_or (slice_get places k) 0) (statements_of (slice_get xs k))
procedure_starts lines [] [] zero n h = n
procedure_starts lines [] [] (suc k) n h = n
procedure_starts lines (place ∷ places) (x ∷ xs) zero n h = h.0
procedure_starts lines (place ∷ places) (x ∷ xs) (suc k) n h = procedure_starts lines places xs k n h.1
procedure_starts lines [] (x ∷ xs) k n h = absurd h
procedure_starts lines (place ∷ places) [] k n h = absurd h

pub thread_starts : (lines : List Line) (places : List ℕ) (xs : List (List Statement)) (k : ℕ) → StartsAt lines 0 [] → EachStarts itself lines places xs → StartsAt lines (unwrap_or (slice_get places k) 0) (slice_index_or xs k [])
thread_starts lines [] [] zero n h = n
thread_starts lines [] [] (suc k) n h = n
thread_starts lines (place ∷ places) (x ∷ xs) zero n h = h.0
thread_starts lines (place ∷ places) (x ∷ xs) (suc k) n h = thread_starts lines places xs k n h.1
thread_starts lines [] (x ∷ xs) k n h = absurd h
thread_starts lines (place ∷ places) [] k n h = absurd h

now : (lines : List Line) (place : ℕ) (body : List Statement) → StartsAt lines place body → Stands (drop place lines) (Lines body ∷ [])
now lines place body h = subst (λ ls. Stands (drop place ls) (Lines body ∷ [])) (append-nil lines) (h [])

-- all bodies begin at their places
pub is_program : (s : Tree) (p : Program) (before : List Line) → p.budget ≡ s.budget → Grows (End ∷ []) before → Grows before p.lines.items → EachStarts procedure_body before p.procedures.items s.procedures → EachStarts itself p.lines.items p.threads.items s.threads → IsProgramOf s p
is_program s p before e g f h k =
    let lines = p.lines.items in
    let nothing : StartsAt lines 0 [] = nothing_starts lines (grows_on (End ∷ []) before lines g f) in
    record {
      budget = e;
      procedures = λ number. now lines _ _ (procedure_starts lines p.procedures.items s.procedures number nothing (each_on procedure_body before lines p.procedures.items s.procedures f h));
      threads = λ t. now lines _ _ (thread_starts lines p.threads.items s.threads (t - 1) nothing k);
    }

-- ---- what was put for a statement

pub put_alone : (old new : List Line) (line : Line) (line' : Statement) → Says line line' → new ≡ old ++ line ∷ [] → IsPut (line' ∷ []) old new
put_alone old new line line' h e = (line ∷ [], e, codes_alone line line' h)

-- the first line of a block is set once its code is put behind it
block_set : (old a b c code : List Line) (first last : Line) (from : ℕ) → from ≡ length old → a ≡ old ++ first ∷ [] → b ≡ a ++ code → c ≡ slice_set b from last → c ≡ old ++ last ∷ code
block_set old a b c code first last from e f g h =
    h ∙ set_line old first last code from b e (g ∙ ap (λ ls. ls ++ code) f ∙ append_assoc old (first ∷ []) code)

block_length : (old a b code : List Line) (first : Line) → a ≡ old ++ first ∷ [] → b ≡ a ++ code → length b ≡ length old + 1 + length code
block_length old a b code first f g =
    omega (arith, ap length f, length-append old (first ∷ []), ap length g, length-append a code)

pub put_branch : (old a b c : List Line) (statement : Statement) (body : List Statement) (t : Bor Test) (k : _) (row : _) (from passed : ℕ) → statement ≡ tree.If' t.now k row → items-the_row-Statement _ row ≡ body → from ≡ length old → a ≡ old ++ If t 0 ∷ [] → IsPut body a b → passed ≡ length b - from - 1 → c ≡ slice_set b from (If t passed) → IsPut (statement ∷ []) old c
put_branch old a b c statement body t k row from passed is same e f h count g =
    let code = h.0 in
    let long : passed ≡ length code = omega (arith, count, block_length old a b code (If t 0) f h.1, e) in (
      If t passed ∷ code,
      block_set old a b c code (If t 0) (If t passed) from e f h.1 g,
      subst (λ x. Codes (If t passed ∷ code) (x ∷ [])) (sym is) (codes_branch t k row code passed long (subst (λ xs. Codes code xs) (sym same) h.2)),
    )

pub put_loop : (old a b c d : List Line) (statement : Statement) (body : List Statement) (t : Bor Test) (k : _) (row : _) (from passed : ℕ) → statement ≡ tree.While' t.now k row → items-the_row-Statement _ row ≡ body → from ≡ length old → a ≡ old ++ While t 0 ∷ [] → IsPut body a b → c ≡ b ++ End ∷ [] → passed ≡ length c - from - 1 → d ≡ slice_set c from (While t passed) → IsPut (statement ∷ []) old d
put_loop old a b c d statement body t k row from passed is same e f h last count g =
    let code = h.0 ++ End ∷ [] in
    let all : c ≡ a ++ code = last ∙ ap (λ ls. ls ++ End ∷ []) h.1 ∙ append_assoc a h.0 (End ∷ []) in
    let long : passed ≡ length h.0 + 1 = omega (arith, count, block_length old a c code (While t 0) f all, e, length-append h.0 (End ∷ [])) in (
      While t passed ∷ code,
      block_set old a c d code (While t 0) (While t passed) from e f all g,
      subst (λ x. Codes (While t passed ∷ code) (x ∷ [])) (sym is) (codes_loop t k row h.0 passed long (subst (λ xs. Codes h.0 xs) (sym same) h.2)),
    )

pub put_branches : (old a b c d e f : List Line) (statement : Statement) (first second : List Statement) (t : Bor Test) (k : _) (row : _) (j : _) (other : _) (from middle passed skipped : ℕ) → statement ≡ tree.IfElse' t.now k row j other → items-the_row-Statement _ row ≡ first → items-the_row-Statement _ other ≡ second → from ≡ length old → a ≡ old ++ If t 0 ∷ [] → IsPut first a b → middle ≡ length b → c ≡ b ++ Else 0 ∷ [] → IsPut second c d → passed ≡ length d - middle - 1 → e ≡ slice_set d middle (Else passed) → skipped ≡ middle - from → f ≡ slice_set e from (If t skipped) → IsPut (statement ∷ []) old f
put_branches old a b c d e f statement first second t k row j other from middle passed skipped is same one at begin h mid over g count set skip done =
    let code = h.0 ++ Else passed ∷ g.0 in
    let inner_set : e ≡ b ++ Else passed ∷ g.0 = block_set b c d e g.0 (Else 0) (Else passed) middle mid over g.1 set in
    let all : e ≡ a ++ code = inner_set ∙ ap (λ ls. ls ++ Else passed ∷ g.0) h.1 ∙ append_assoc a h.0 (Else passed ∷ g.0) in
    let long : passed ≡ length g.0 = omega (arith, count, mid, block_length b c d g.0 (Else 0) over g.1) in
    let front : skipped ≡ length h.0 + 1 = omega (arith, skip, mid, at, block_length old a b h.0 (If t 0) begin h.1) in (
      If t skipped ∷ code,
      block_set old a e f code (If t 0) (If t skipped) from at begin all done,
      subst (λ x. Codes (If t skipped ∷ code) (x ∷ [])) (sym is)
          (codes_branches t k row j other h.0 g.0 skipped passed front long (subst (λ xs. Codes h.0 xs) (sym same) h.2) (subst (λ xs. Codes g.0 xs) (sym one) g.2)),
    )

pub put_more : (old mid new : List Line) (done : List Statement) (statement : Statement) (all : List Statement) → IsPut done old mid → IsPut (statement ∷ []) mid new → all ≡ done ++ statement ∷ [] → IsPut all old new
put_more old mid new done statement all h g is =
    (h.0 ++ g.0, g.1 ∙ ap (λ ls. ls ++ g.0) h.1 ∙ append_assoc old h.0 g.0, subst (λ xs. Codes (h.0 ++ g.0) xs) (sym is) (codes_on h.0 g.0 done (statement ∷ []) h.2 g.2))

pub put_nothing : (old : List Line) → IsPut [] old old
put_nothing old = ([], sym (append-nil old), codes_nothing)

pub put_grows : (statements : List Statement) (old mid new : List Line) → IsPut statements old mid → new ≡ mid ++ End ∷ [] → Grows old new
put_grows statements old mid new h e = grows_on old mid new (h.0, h.1) (End ∷ [], e)

pub grows_nothing : (old : List Line) → Grows old old
grows_nothing old = ([], sym (append-nil old))

-- ---- by the statement

-- an `if`, an `if` with `else` and a `while`, with these bodies
abbrev pub IsIf : Statement → Test → List Statement → Type 0
IsIf (tree.If' u k a) t body = (u ≡ t) × (items-the_row-Statement _ a ≡ body)
IsIf statement t body = ⊥

abbrev pub IsIfElse : Statement → Test → List Statement → List Statement → Type 0
IsIfElse (tree.IfElse' u k a j b) t first second = (u ≡ t) × (items-the_row-Statement _ a ≡ first) × (items-the_row-Statement _ b ≡ second)
IsIfElse statement t first second = ⊥

abbrev pub IsLoopOf : Statement → Test → List Statement → Type 0
IsLoopOf (tree.While' u k a) t body = (u ≡ t) × (items-the_row-Statement _ a ≡ body)
IsLoopOf statement t body = ⊥

pub put_if : (old a b c : List Line) (statement : Statement) (body : List Statement) (t : Bor Test) (from passed : ℕ) → IsIf statement t.now body → from ≡ length old → a ≡ old ++ If t 0 ∷ [] → IsPut body a b → passed ≡ length b - from - 1 → c ≡ slice_set b from (If t passed) → IsPut (statement ∷ []) old c
put_if old a b c (tree.If' u k row) body t from passed i = put_branch old a b c (tree.If' u k row) body t k row from passed (ap (λ x. tree.If' x k row) i.0) i.1
put_if old a b c statement body t from passed i = absurd i

pub put_while : (old a b c d : List Line) (statement : Statement) (body : List Statement) (t : Bor Test) (from passed : ℕ) → IsLoopOf statement t.now body → from ≡ length old → a ≡ old ++ While t 0 ∷ [] → IsPut body a b → c ≡ b ++ End ∷ [] → passed ≡ length c - from - 1 → d ≡ slice_set c from (While t passed) → IsPut (statement ∷ []) old d
put_while old a b c d (tree.While' u k row) body t from passed i = put_loop old a b c d (tree.While' u k row) body t k row from passed (ap (λ x. tree.While' x k row) i.0) i.1
put_while old a b c d statement body t from passed i = absurd i

pub put_if_else : (old a b c d e f : List Line) (statement : Statement) (first second : List Statement) (t : Bor Test) (from middle passed skipped : ℕ) → IsIfElse statement t.now first second → from ≡ length old → a ≡ old ++ If t 0 ∷ [] → IsPut first a b → middle ≡ length b → c ≡ b ++ Else 0 ∷ [] → IsPut second c d → passed ≡ length d - middle - 1 → e ≡ slice_set d middle (Else passed) → skipped ≡ middle - from → f ≡ slice_set e from (If t skipped) → IsPut (statement ∷ []) old f
put_if_else old a b c d e f (tree.IfElse' u k row j other) first second t from middle passed skipped i = put_branches old a b c d e f (tree.IfElse' u k row j other) first second t k row j other from middle passed skipped (ap (λ x. tree.IfElse' x k row j other) i.0) i.1 i.2
put_if_else old a b c d e f statement first second t from middle passed skipped i = absurd i
