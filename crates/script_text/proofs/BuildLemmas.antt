-- Blocks and lines.
use Rattle.std.proofs.Common.{◌≡◌, ℕ, ◌+◌, ◌<◌, ◌≤◌, Bool, true, false, not, List, [], ◌∷◌, ◌++◌, length, Option, Some, None, Result, Ok, Err, refl, ap, sym, ◌∙◌, append_assoc, append-nil, arith, subst, inl, inr}
use Rattle.std.specs.Prelude.{nat_lt, ◌==◌, ◌&&◌, ◌||◌, if◌then◌else◌, IfOk}
use Rattle.std.specs.List.{flat_map, list_any, AllByRecursion}
use Rattle.std.proofs.lemmas.Bool.{false≢true, and_parts, cases_Bool}
use Rattle.std.proofs.lemmas.Bool.Decides.{nat_tests}
use Rattle.std.proofs.lemmas.List.Concat.{flat_map-append}
use Rattle.script_tree.specs.declared.statement.Statement.{Statement, Row_of-Statement, end_of-Statement, more_of-Statement, items-the_row-Statement}
use Rattle.script_lines.specs.declared.line.Line.{Line}
use Rattle.script_lines.specs.declared.line.Line.TheVariants as lines
use Rattle.script_text.specs.declared.builder.Opening.{Opening}
use Rattle.script_text.specs.declared.builder.Opening.TheVariants as openings
use Rattle.script_text.specs.declared.builder.Block.{Block}
use Rattle.script_text.specs.Building.{kind_of, kinds, opening_lines, open_lines, built_lines, nest_of, IsSound}
use Rattle.script_text.specs.Lines.{statement_lines, row_lines, body_lines, thread_lines, procedure_lines, numbered_lines, code_lines}
use Rattle.script_text.specs.Nesting.{Kind, InProcedure, InThread, InIf, InElse, InWhile, Nest, IsNext, is_procedure, nested, nested_all, none_open, with_kinds, block_entered, block_opened, top_opened, else_opened, procedure_entered, procedure_opened, closed}

pub length_kinds : (bs : List Block) → length (kinds bs) ≡ length bs
length_kinds [] = refl
length_kinds (b ∷ bs) = omega (arith, length_kinds bs)

pub none_at_top : (kind : Kind) (ks : List Kind) → 0 < length ks → top_opened kind ks ≡ None
none_at_top kind [] h = absurd (omega arith)
none_at_top kind (k ∷ ks) h = refl

pub some_open : (ks : List Kind) → 0 < length ks → none_open ks ≡ false
some_open [] h = absurd (omega arith)
some_open (k ∷ ks) h = refl

pub none_opened : (kind : Kind) (ks : List Kind) → length ks ≡ 0 → block_opened kind ks ≡ None
none_opened kind [] h = refl
none_opened kind (k ∷ ks) h = absurd (omega arith)

not_below : (a b : ℕ) → b ≤ a → nat_lt a b ≡ false
not_below a b h = grind (arith, nat_tests)

below : (a b : ℕ) → a < b → nat_lt a b ≡ true
below a b h = grind (arith, nat_tests)

pub too_deep : (kind : Kind) (ks : List Kind) → 33 ≤ length ks → block_opened kind ks ≡ None
too_deep kind [] h = absurd (omega arith)
too_deep kind (k ∷ ks) h = let e : nat_lt (length (k ∷ ks)) 33 ≡ false = not_below _ _ h in rw e refl

pub one_opened : (kind : Kind) (ks : List Kind) → 0 < length ks → length ks < 33 → block_opened kind ks ≡ Some (kind ∷ ks)
one_opened kind [] some h = absurd (omega arith)
one_opened kind (k ∷ ks) some h = let e : nat_lt (length (k ∷ ks)) 33 ≡ true = below _ _ h in rw e refl

-- the lines of a row are those of its statements
pub row_is : {m : _} (row : Row_of-Statement m) → row_lines row ≡ body_lines (items-the_row-Statement _ row)
row_is end_of-Statement = refl
row_is (more_of-Statement s rest) = ap (λ (l : List Line). statement_lines s ++ l) (row_is rest)

-- nothing stands open behind a line that can't stand there
pub stays_none : (ls : List Line) → nested_all None ls ≡ None
stays_none [] = refl
stays_none (l ∷ ls) = stays_none ls

pub not_zero : (n : ℕ) → (n == 0) ≡ false → 0 < n
not_zero n h = grind (arith, nat_tests)

eq_told : (a b : ℕ) → (a == b) ≡ true → a ≡ b
eq_told a b h = grind (arith, nat_tests, h)

pub is_zero : (n : ℕ) → (n == 0) ≡ true → n ≡ 0
is_zero n h = grind (arith, nat_tests)

-- what stands open is the same, seen alone and with what has ended
pub nest_told : (taken : Bool) (ks : List Kind) (n : Nest) (o : Option (List Kind)) → (if taken then Some ks else None) ≡ o → (if taken then Some (record n { kinds = ks }) else None) ≡ with_kinds n o
nest_told true ks n o e = ap (with_kinds n) e
nest_told false ks n o e = ap (with_kinds n) e

-- procedures one more
numbered_more : (k : ℕ) (bodies : List (List Statement)) (body : List Statement) → numbered_lines k (bodies ++ body ∷ []) ≡ numbered_lines k bodies ++ procedure_lines (k + length bodies) body
numbered_more k [] body =
    let e : k ≡ k + 0 = omega arith in
    append-nil (procedure_lines k body) ∙ ap (λ (n : ℕ). procedure_lines n body) e
numbered_more k (first ∷ bodies) body =
    let e : (k + 1) + length bodies ≡ k + length (first ∷ bodies) = omega arith in
    ap (λ (l : List Line). procedure_lines k first ++ l) (numbered_more (k + 1) bodies body ∙ ap (λ (n : ℕ). numbered_lines (k + 1) bodies ++ procedure_lines n body) e)
    ∙ sym (append_assoc (procedure_lines k first) (numbered_lines (k + 1) bodies) (procedure_lines (k + length (first ∷ bodies)) body))

-- threads one more
threads_more : (threads : List (List Statement)) (body : List Statement) → flat_map thread_lines (threads ++ body ∷ []) ≡ flat_map thread_lines threads ++ thread_lines body
threads_more threads body = flat_map-append thread_lines threads (body ∷ []) ∙ ap (λ (l : List Line). flat_map thread_lines threads ++ l) (append-nil (thread_lines body))

pub any_kinds : (bs : List Block) → list_any is_procedure (kinds bs) ≡ list_any (λ b. is_procedure (kind_of b.opening)) bs
any_kinds [] = refl
any_kinds (b ∷ bs) = ap (λ (x : Bool). is_procedure (kind_of b.opening) || x) (any_kinds bs)

-- a block that ends becomes a statement of the block around it
pub closed_block : {E : Type 0} (procedures threads : List (List Statement)) (new old rest : List Block) (b : Block) (st : Statement) (r : Result Bool E) → old ≡ b ∷ rest → statement_lines st ≡ (opening_lines b.opening ++ body_lines b.statements.items) ++ lines.End ∷ []
    → IfOk r (λ t. t ≡ true → open_lines new ≡ open_lines rest ++ statement_lines st) → IfOk r (λ t. t ≡ true → built_lines procedures threads new ≡ built_lines procedures threads old ++ lines.End ∷ [])
closed_block procedures threads new old rest b st (Ok t) was same h = λ e.
    let bl : List Line = opening_lines b.opening ++ body_lines b.statements.items in
    let e1 : open_lines new ≡ open_lines rest ++ (bl ++ lines.End ∷ []) = h e ∙ ap (λ (l : List Line). open_lines rest ++ l) same in
    let e2 : open_lines old ≡ open_lines rest ++ bl = ap open_lines was in
    let all : List Line = code_lines procedures threads in
    ap (λ (l : List Line). all ++ l) (e1 ∙ sym (append_assoc (open_lines rest) bl (lines.End ∷ [])))
    ∙ sym (append_assoc all (open_lines rest ++ bl) (lines.End ∷ []))
    ∙ ap (λ (l : List Line). (all ++ l) ++ lines.End ∷ []) (sym e2)
closed_block procedures threads new old rest b st (Err x) was same h = h

no_blocks : (bs : List Block) → true ≡ none_open (kinds bs) → bs ≡ []
no_blocks [] h = refl
no_blocks (b ∷ bs) h = absurd (false≢true (sym h))

no_items : (bodies : List (List Statement)) → length bodies ≡ 0 → bodies ≡ []
no_items [] h = refl
no_items (body ∷ bodies) h = absurd (omega arith)

-- a thread that ends
pub closed_thread : {E : Type 0} (procedures threads new : List (List Statement)) (old rest : List Block) (b : Block) (r : Result Bool E) → old ≡ b ∷ rest → b.opening ≡ openings.Thread
    → IfOk r (λ t. t ≡ true → new ≡ threads ++ b.statements.items ∷ []) → IfOk r (λ t. t ≡ none_open (kinds rest)) → IfOk r (λ t. t ≡ true → built_lines procedures new rest ≡ built_lines procedures threads old ++ lines.End ∷ [])
closed_thread procedures threads new old rest b (Ok t) was begun h top = λ e.
    let none : rest ≡ [] = no_blocks rest (sym e ∙ top) in
    let all : List Line = numbered_lines 0 procedures in
    let stood : open_lines old ≡ lines.Thread ∷ body_lines b.statements.items =
    ap open_lines was ∙ ap (λ (bs : List Block). open_lines bs ++ (opening_lines b.opening ++ body_lines b.statements.items)) none ∙ ap (λ (o : Opening). opening_lines o ++ body_lines b.statements.items) begun in
    let one : List Line = flat_map thread_lines threads in
    ap (λ (bs : List Block). built_lines procedures new bs) none
    ∙ append-nil (code_lines procedures new)
    ∙ ap (λ (ts : List (List Statement)). all ++ flat_map thread_lines ts) (h e)
    ∙ ap (λ (l : List Line). all ++ l) (threads_more threads b.statements.items)
    ∙ sym (append_assoc all one (thread_lines b.statements.items))
    ∙ sym (append_assoc (all ++ one) (lines.Thread ∷ body_lines b.statements.items) (lines.End ∷ []))
    ∙ ap (λ (l : List Line). ((all ++ one) ++ l) ++ lines.End ∷ []) (sym stood)
closed_thread procedures threads new old rest b (Err x) was begun h top = h

-- a procedure that ends
pub closed_procedure : {E : Type 0} (procedures threads new : List (List Statement)) (old rest : List Block) (b : Block) (k : ℕ) (r : Result Bool E) → old ≡ b ∷ rest → b.opening ≡ openings.Procedure k → IsSound procedures threads old
    → IfOk r (λ t. t ≡ true → new ≡ procedures ++ b.statements.items ∷ []) → IfOk r (λ t. t ≡ none_open (kinds rest)) → IfOk r (λ t. t ≡ true → built_lines new threads rest ≡ built_lines procedures threads old ++ lines.End ∷ [])
closed_procedure procedures threads new old rest b k (Ok t) was begun sound h top = λ e.
    let none : rest ≡ [] = no_blocks rest (sym e ∙ top) in
    let all : List Line = numbered_lines 0 procedures in
    let first : IsNext (length procedures) (length threads) (kind_of b.opening) = (rw was at sound).0 in
    let next : (k ≡ length procedures) × (length threads ≡ 0) = rw begun at first in
    let no_thread : threads ≡ [] = no_items threads next.1 in
    let stood : open_lines old ≡ lines.Procedure k ∷ body_lines b.statements.items =
    ap open_lines was ∙ ap (λ (bs : List Block). open_lines bs ++ (opening_lines b.opening ++ body_lines b.statements.items)) none ∙ ap (λ (o : Opening). opening_lines o ++ body_lines b.statements.items) begun in
    let before : code_lines procedures threads ≡ all = ap (λ (ts : List (List Statement)). all ++ flat_map thread_lines ts) no_thread ∙ append-nil all in
    let number : 0 + length procedures ≡ k = omega (arith, next.0) in
    ap (λ (bs : List Block). built_lines new threads bs) none
    ∙ append-nil (code_lines new threads)
    ∙ ap (λ (ts : List (List Statement)). numbered_lines 0 new ++ flat_map thread_lines ts) no_thread
    ∙ append-nil (numbered_lines 0 new)
    ∙ ap (numbered_lines 0) (h e)
    ∙ numbered_more 0 procedures b.statements.items
    ∙ ap (λ (n : ℕ). all ++ procedure_lines n b.statements.items) number
    ∙ sym (append_assoc all (lines.Procedure k ∷ body_lines b.statements.items) (lines.End ∷ []))
    ∙ ap (λ (l : List Line). (all ++ l) ++ lines.End ∷ []) (sym stood)
    ∙ ap (λ (l : List Line). (l ++ open_lines old) ++ lines.End ∷ []) (sym before)
closed_procedure procedures threads new old rest b k (Err x) was begun sound h top = h

-- ---- an open procedure has the next number

abbrev AreNext : Nest → Type 0
AreNext n = AllByRecursion (IsNext n.procedures n.threads) n.kinds

some_same : (n m : Nest) → (let x : Option Nest = Some n in let y : Option Nest = Some m in x ≡ y) → n ≡ m
some_same n m e = let f : Option Nest → Nest = λ o. elim o [ None ↦ n | Some x ↦ x ] in ap f e

-- other kinds stand open, of which all are as they must be
along : (n m : Nest) (ks : List Kind) → AllByRecursion (IsNext n.procedures n.threads) ks → with_kinds n (Some ks) ≡ Some m → AreNext m
along n m ks h e = let P : Nest → Type 0 = AreNext in subst P (some_same (record n { kinds = ks }) m e) h

entered_next : (n m : Nest) (ks : List Kind) → AllByRecursion (IsNext n.procedures n.threads) ks → with_kinds n (block_entered ks) ≡ Some m → AreNext m
entered_next n m [] h e = absurd (cc e)
entered_next n m (k ∷ ks) h e = along n m (k ∷ ks) h e

opened_next : (n m : Nest) (kind : Kind) (ks : List Kind) → IsNext n.procedures n.threads kind → AllByRecursion (IsNext n.procedures n.threads) ks → with_kinds n (block_opened kind ks) ≡ Some m → AreNext m
opened_next n m kind [] first h e = absurd (cc e)
opened_next n m kind (k ∷ ks) first h e = elim (cases_Bool (nat_lt (length (k ∷ ks)) 33)) [
  | inl few ↦ along n m (kind ∷ k ∷ ks) (first, h) (sym (ap (λ (b : Bool). with_kinds n (if b then Some (kind ∷ k ∷ ks) else None)) few) ∙ e)
  | inr many ↦ let f : with_kinds n (block_opened kind (k ∷ ks)) ≡ None = ap (λ (b : Bool). with_kinds n (if b then Some (kind ∷ k ∷ ks) else None)) many in absurd (cc (e, f))
]

top_next : (n m : Nest) (kind : Kind) (ks : List Kind) → IsNext n.procedures n.threads kind → with_kinds n (top_opened kind ks) ≡ Some m → AreNext m
top_next n m kind [] first e = along n m (kind ∷ []) (first, tt) e
top_next n m kind (k ∷ ks) first e = absurd (cc e)

else_next : (n m : Nest) (ks : List Kind) → AllByRecursion (IsNext n.procedures n.threads) ks → with_kinds n (else_opened ks) ≡ Some m → AreNext m
else_next n m [] h e = absurd (cc e)
else_next n m (InProcedure k ∷ ks) h e = absurd (cc e)
else_next n m (InThread ∷ ks) h e = absurd (cc e)
else_next n m (InIf ∷ ks) h e = along n m (InElse ∷ ks) (tt, h.1) e
else_next n m (InElse ∷ ks) h e = absurd (cc e)
else_next n m (InWhile ∷ ks) h e = absurd (cc e)

inside_next : (n m : Nest) → AreNext n → with_kinds n (procedure_entered n.kinds) ≡ Some m → AreNext m
inside_next n m h e = elim (cases_Bool (list_any is_procedure n.kinds)) [
  | inl some ↦ entered_next n m n.kinds h (sym (ap (λ (b : Bool). with_kinds n (if b then block_entered n.kinds else None)) some) ∙ e)
  | inr none ↦ let f : with_kinds n (procedure_entered n.kinds) ≡ None = ap (λ (b : Bool). with_kinds n (if b then block_entered n.kinds else None)) none in absurd (cc (e, f))
]

procedure_next : (n m : Nest) (k : ℕ) → with_kinds n (procedure_opened k n) ≡ Some m → AreNext m
procedure_next n m k e = elim (cases_Bool ((n.threads == 0) && (k == n.procedures))) [
  | inl fits ↦
      let two = and_parts (n.threads == 0) (k == n.procedures) fits in
      top_next n m (InProcedure k) n.kinds (eq_told k n.procedures two.1, eq_told n.threads 0 two.0) (sym (ap (λ (b : Bool). with_kinds n (if b then top_opened (InProcedure k) n.kinds else None)) fits) ∙ e)
  | inr fails ↦ let f : with_kinds n (procedure_opened k n) ≡ None = ap (λ (b : Bool). with_kinds n (if b then top_opened (InProcedure k) n.kinds else None)) fails in absurd (cc (e, f))
]

-- a body that ends leaves nothing open
ended_next : (n m x : Nest) → x.kinds ≡ [] → (let o : Option Nest = Some x in let p : Option Nest = Some m in o ≡ p) → AreNext m
ended_next n m x none e =
    let P : Nest → Type 0 = AreNext in
    let Q : List Kind → Type 0 = AllByRecursion (IsNext x.procedures x.threads) in
    subst P (some_same x m e) (subst Q (sym none) tt)

closed_next : (n m : Nest) (ks : List Kind) → AllByRecursion (IsNext n.procedures n.threads) ks → closed n ks ≡ Some m → AreNext m
closed_next n m [] h e = absurd (cc e)
closed_next n m (InProcedure k ∷ []) h e = ended_next n m (record { kinds = []; procedures = n.procedures + 1; threads = n.threads }) refl e
closed_next n m (InProcedure k ∷ j ∷ ks) h e = absurd (cc e)
closed_next n m (InThread ∷ []) h e = ended_next n m (record { kinds = []; procedures = n.procedures; threads = n.threads + 1 }) refl e
closed_next n m (InThread ∷ j ∷ ks) h e = absurd (cc e)
closed_next n m (InIf ∷ ks) h e = entered_next n m ks h.1 e
closed_next n m (InElse ∷ ks) h e = entered_next n m ks h.1 e
closed_next n m (InWhile ∷ ks) h e = entered_next n m ks h.1 e

nested_next : (n m : Nest) (l : Line) → AreNext n → nested n l ≡ Some m → AreNext m
nested_next n m (lines.Procedure k) h e = procedure_next n m k e
nested_next n m lines.Thread h e = top_next n m InThread n.kinds tt e
nested_next n m (lines.Let v a) h e = entered_next n m n.kinds h e
nested_next n m (lines.Compute v a op b) h e = entered_next n m n.kinds h e
nested_next n m (lines.If t) h e = opened_next n m InIf n.kinds tt h e
nested_next n m lines.Else h e = else_next n m n.kinds h e
nested_next n m (lines.While t) h e = opened_next n m InWhile n.kinds tt h e
nested_next n m lines.End h e = closed_next n m n.kinds h e
nested_next n m (lines.Return a) h e = inside_next n m h e
nested_next n m (lines.Call c) h e = entered_next n m n.kinds h e
nested_next n m (lines.Sleep a) h e = entered_next n m n.kinds h e
nested_next n m (lines.Create c) h e = entered_next n m n.kinds h e
nested_next n m (lines.Destroy a) h e = entered_next n m n.kinds h e
nested_next n m (lines.Compound c) h e = entered_next n m n.kinds h e
nested_next n m lines.Default h e = inside_next n m h e

pub sound_after : (procedures threads new_procedures new_threads : List (List Statement)) (blocks new_blocks : List Block) (l : Line) (taken : Bool) → IsSound procedures threads blocks → taken ≡ true
    → (if taken then Some (nest_of new_procedures new_threads new_blocks) else None) ≡ nested (nest_of procedures threads blocks) l → IsSound new_procedures new_threads new_blocks
sound_after procedures threads new_procedures new_threads blocks new_blocks l taken h e step =
    nested_next (nest_of procedures threads blocks) (nest_of new_procedures new_threads new_blocks) l h (sym step ∙ ap (λ (b : Bool). if b then Some (nest_of new_procedures new_threads new_blocks) else None) e)

pub sound_last : {E : Type 0} (r : Result Bool E) (procedures threads new_procedures new_threads : List (List Statement)) (blocks new_blocks : List Block) (l : Line) → IsSound procedures threads blocks
    → IfOk r (λ t. (if t then Some (nest_of new_procedures new_threads new_blocks) else None) ≡ nested (nest_of procedures threads blocks) l) → IfOk r (λ t. t ≡ true → IsSound new_procedures new_threads new_blocks)
sound_last (Ok t) procedures threads new_procedures new_threads blocks new_blocks l h step = λ e. sound_after procedures threads new_procedures new_threads blocks new_blocks l t h e step
sound_last (Err x) procedures threads new_procedures new_threads blocks new_blocks l h step = step

equals_zero : (n : ℕ) → n ≡ 0 → (n == 0) ≡ true
equals_zero n h = grind (arith, nat_tests, h)

above_zero : (n : ℕ) → 0 < n → (n == 0) ≡ false
above_zero n h = grind (arith, nat_tests, h)

pub open_told : (bs : List Block) (n : ℕ) (empty : Bool) → empty ≡ (n == 0) → n ≡ length bs → not empty ≡ not (none_open (kinds bs))
open_told [] n empty h e = ap not (h ∙ equals_zero n e)
open_told (b ∷ bs) n empty h e = ap not (h ∙ above_zero n (omega (arith, e)))
