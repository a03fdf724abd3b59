-- What items do, one by one.
use Rattle.std.proofs.Common.{◌≡◌, ℕ, zero, suc, ◌+◌, ◌-◌, ◌*◌, ◌<◌, ◌≤◌, min, ◌==◌, Bool, true, false, List, [], ◌∷◌, ◌++◌, length, drop, Some, None, refl, sym, ap, ◌∙◌, subst, arith, append_assoc, eq-eqb, fold, inl, inr}
use Rattle.std.specs.Borrow.{Bor}
use Rattle.std.specs.Prelude.{◌⊎◌, slice_get, if◌then◌else◌, unwrap_or, max}
use Rattle.user_model.specs.declared.call.Call.{Call}
use Rattle.user_model.specs.declared.call.Call.TheVariants.{Yield}
use Rattle.script_tree.specs.declared.operand.Test.{Test}
use Rattle.script_tree.specs.declared.statement.Statement.{Statement, items-the_row-Statement}
use Rattle.script_tree.specs.declared.statement.Statement.TheVariants as tree
use Rattle.script_tree.specs.declared.variables.Variables.{Variables}
use Rattle.script_tree.specs.declared.frame.Run.{Run}
use Rattle.script_tree.specs.Tree.{Tree, procedure_of}
use Rattle.script_tree.specs.Values.{holds, inside_of}
use Rattle.script_tree.specs.Pieces.{Piece, Lines, One, PassEnd, Making, Quiet, Running as RunningPiece, Leaving as LeavingPiece, Again as AgainPiece, Restore as RestorePiece, State, Going, Returning, Given, Becomes}
use Rattle.script_tree.specs.Steps.{step, passes, statement}
use Rattle.script_tree.specs.Weights.{weight, lines_weight, costs, steps_left}
use Rattle.script_tree.proofs.Falls.{falls}
use Rattle.script_proc.specs.declared.program.Line.{Line}
use Rattle.script_proc.specs.declared.program.Line.TheVariants.{If, Else, While, End}
use Rattle.script_proc.specs.declared.program.Program.{Program}
use Rattle.script_proc.specs.declared.item.Item.{Item}
use Rattle.script_proc.specs.declared.item.Item.TheVariants.{At, Once, PassEnd as PassEndItem, Making as MakingItem, Settle, Quiet as QuietItem, Running, Leaving, Restore}
use Rattle.script_proc.specs.declared.item.Mode.{Mode}
use Rattle.script_proc.specs.declared.item.Mode.TheVariants.{Going as GoingMode, Returning as ReturningMode, Given as GivenMode}
use Rattle.script_proc.specs.Programs.{Says, Stands, lines_at}
use Rattle.script_proc.specs.Items.{piece, Covers, AllCover, IsLoop, loops, above, state_of, Keeps, IsPlain, ArePlain, IsSettling, IsPlaceless, ArePlaceless}
use Rattle.script_proc.specs.Works.{statements, no_tree, as_long, all_long, Moves, Steps}
use Rattle.script_proc.proofs.StandLaws.{drop_here, drop_past, within, drop_behind, IsSimple, says, said_weight, nothing_stands, are_lines, keeps_on, by_step, lines_pass, alone_goes, else_goes, end_goes, then_goes, otherwise_goes, IsWhile, is_while, while_comes}

-- items without a place stand for their pieces
piece_covers : (p : Program) (item : Item) → IsPlaceless item → Covers p item (piece item ∷ [])
piece_covers p (At at) h = absurd h
piece_covers p (Once at) h = absurd h
piece_covers p (PassEndItem at began) h = absurd h
piece_covers p item h = refl

cover_is : (p : Program) (item : Item) (qs : List Piece) → IsPlain item → Covers p item qs → qs ≡ piece item ∷ []
cover_is p (At at) qs h c = absurd h
cover_is p (Once at) qs h c = absurd h
cover_is p (PassEndItem at began) qs h c = absurd h
cover_is p item qs h c = c

pub is_plain : (item : Item) → ((at : ℕ) → item ≡ At at → ⊥) → ((at : ℕ) → item ≡ Once at → ⊥) → ((at began : ℕ) → item ≡ PassEndItem at began → ⊥) → ((run : Run) → item ≡ Running run → ⊥) → IsPlain item
is_plain (At at) a b c d = a at refl
is_plain (Once at) a b c d = b at refl
is_plain (PassEndItem at began) a b c d = c at began refl
is_plain (Running run) a b c d = d run refl
is_plain item a b c d = tt

pub settling_plain : (item : Item) → IsSettling item → IsPlain item
settling_plain (Settle call) h = tt
settling_plain QuietItem h = tt
settling_plain item h = absurd h

pub is_settling : (item : Item) → (((call : Call) × (item ≡ Settle call)) ⊎ (item ≡ QuietItem)) → IsSettling item
is_settling item (inl x) = subst IsSettling (sym x.1) tt
is_settling item (inr x) = subst IsSettling (sym x) tt

above_more : (few : List Item) (acc : List Piece) → fold (λ ps item. piece item ∷ ps) acc few ≡ above few ++ acc
above_more [] acc = refl
above_more (item ∷ few) acc = above_more few (piece item ∷ acc) ∙ sym (append_assoc (above few) (piece item ∷ []) acc) ∙ ap (λ ps. ps ++ acc) (sym (above_more few (piece item ∷ [])))

pub plain_cover : (p : Program) (few : List Item) → ArePlaceless few → AllCover p few (above few)
plain_cover p [] h = refl
plain_cover p (item ∷ few) h = (above few, piece item ∷ [], above_more few (piece item ∷ []), piece_covers p item h.0, plain_cover p few h.1)

is_placeless : (item : Item) → IsPlain item → IsPlaceless item
is_placeless (At at) h = absurd h
is_placeless (Once at) h = absurd h
is_placeless (PassEndItem at began) h = absurd h
is_placeless item h = tt

are_placeless : (few : List Item) → ArePlain few → ArePlaceless few
are_placeless [] h = tt
are_placeless (item ∷ few) h = (is_placeless item h.0, are_placeless few h.1)

pub same_line : {a b : Line} → Some a ≡ Some b → a ≡ b
same_line e = cc

pub same_item : {a b : Item} → Some a ≡ Some b → a ≡ b
same_item e = cc

-- the weight of so many statements
weighs : (k : ℕ) → lines_weight (statements k) ≡ 5 * k
weighs zero = refl
weighs (suc k) = omega (arith, weighs k)

module _ (size n : ℕ) where
  pub long_more : (few : List Item) (acc : List Piece) → fold (λ ps item. as_long size n item ∷ ps) acc few ≡ all_long size n few ++ acc
  long_more [] acc = refl
  long_more (item ∷ few) acc = long_more few (as_long size n item ∷ acc) ∙ sym (append_assoc (all_long size n few) (as_long size n item ∷ []) acc) ∙ ap (λ ps. ps ++ acc) (sym (long_more few (as_long size n item ∷ [])))

  plain_long : (item : Item) → IsPlain item → as_long size n item ≡ piece item
  plain_long (At at) h = absurd h
  plain_long (Once at) h = absurd h
  plain_long (PassEndItem at began) h = absurd h
  plain_long (Running run) h = absurd h
  plain_long item h = refl

  few_long : (few : List Item) → ArePlain few → all_long size n few ≡ above few
  few_long [] h = refl
  few_long (item ∷ few) h =
      long_more few (as_long size n item ∷ [])
      ∙ ap (λ ps. ps ++ as_long size n item ∷ []) (few_long few h.1)
      ∙ ap (λ x. above few ++ x ∷ []) (plain_long item h.0)
      ∙ sym (above_more few (piece item ∷ []))

  -- further on in the program
  on_falls : (at next : ℕ) (left : List Piece) (v v' : Variables) → at < size → at < next → steps_left no_tree n (Lines (statements (size - next)) ∷ left) (Going v') < steps_left no_tree n (Lines (statements (size - at)) ∷ left) (Going v)
  on_falls at next left v v' h f = omega (arith, weighs (size - next), weighs (size - at), h, f)

  -- nothing more
  out_falls : (k : ℕ) (left : List Piece) (v : Variables) → steps_left no_tree n left (Going v) < steps_left no_tree n (Lines (statements k) ∷ left) (Going v)
  out_falls k left v = omega arith

  simple_falls : (line : Statement) (at : ℕ) (few : List Item) (left : List Piece) (v : Variables) (st : State) → weight line ≡ 3 → at < size → ArePlain few → Becomes (above few) st ≡ statement line v n → steps_left no_tree n (all_long size n (At (at + 1) ∷ few) ++ left) st < steps_left no_tree n (Lines (statements (size - at)) ∷ left) (Going v)
  simple_falls line at few left v st w h f e =
      let rest = Lines (statements (size - (at + 1))) in
      let fall = falls no_tree n (rest ∷ left) (One line) (Going v) (above few) st (sym e) in
      let same : all_long size n (At (at + 1) ∷ few) ++ left ≡ above few ++ rest ∷ left = ap (λ ps. ps ++ left) (long_more few (rest ∷ []) ∙ ap (λ ps. ps ++ rest ∷ []) (few_long few f)) ∙ append_assoc (above few) (rest ∷ []) left in
      subst (λ ps. steps_left no_tree n ps st < steps_left no_tree n (Lines (statements (size - at)) ∷ left) (Going v)) (sym same)
      (omega (arith, fall, w, h, weighs (size - (at + 1)), weighs (size - at)))

  pass_long : (at : ℕ) → as_long size n (PassEndItem at n) ≡ PassEnd (tree.Default) n
  pass_long at = ap (λ b. if b then PassEnd tree.Default n else Lines (statements (size - at + 1))) (eq-eqb n n refl)

  turn_cost : (b : Bool) (x : ℕ) → b ≡ true → (if b then 1 else x) ≡ 1
  turn_cost true x h = refl
  turn_cost false x h = absurd cc

  while_falls : (at : ℕ) (left : List Piece) (v : Variables) → at < size → steps_left no_tree n (all_long size n (PassEndItem at n ∷ At (at + 1) ∷ []) ++ left) (Going v) < steps_left no_tree n (Lines (statements (size - at)) ∷ left) (Going v)
  while_falls at left v h =
      subst (λ q. steps_left no_tree n (Lines (statements (size - (at + 1))) ∷ q ∷ left) (Going v) < steps_left no_tree n (Lines (statements (size - at)) ∷ left) (Going v)) (sym (pass_long at))
      (omega (arith, turn_cost (n == n) (2 + 3 + max (costs no_tree n left).going (costs no_tree n left).returning) (eq-eqb n n refl), weighs (size - (at + 1)), weighs (size - at), h))

module _ (p : Program) (n : ℕ) where
  -- an item without a place
  pub plain_moves : (item : Item) (few : List Item) (st st' : State) → IsPlain item → ArePlain few → ((s : Tree) (k : ℕ) → Becomes (above few) st' ≡ step s (piece item) st k) → Moves p n item st few st'
  plain_moves item few st st' h f e = record {
    keeps = λ s is qs left c.
        (above few, plain_cover p few (are_placeless few f), subst (λ ps. Keeps s (ps ++ left) st (above few ++ left) st' n) (sym (cover_is p item qs h c)) (by_step s n (piece item) left st (above few) st' (sym (e s n))));
    fewer = λ left.
        subst (λ x. steps_left no_tree n (all_long (length p.lines.items) n few ++ left) st' < steps_left no_tree n (x ∷ left) st) (sym (plain_long (length p.lines.items) n item h))
        (subst (λ ps. steps_left no_tree n (ps ++ left) st' < steps_left no_tree n (piece item ∷ left) st) (sym (few_long (length p.lines.items) n few f))
        (falls no_tree n left (piece item) st (above few) st' (sym (e no_tree n))));
  }

  -- the lines from a place on
  here : (at : ℕ) (line : Line) (qs : List Piece) → slice_get p.lines.items at ≡ Some line → Stands (lines_at p at) qs → Stands (line ∷ lines_at p (at + 1)) qs
  here at line qs h g = subst (λ ls. Stands ls qs) (drop_here p.lines.items at line h) g

  -- past the last line
  pub past_moves : (at : ℕ) (v : Variables) → slice_get p.lines.items at ≡ None → Moves p n (At at) (Going v) [] (Going v)
  past_moves at v h = record {
    keeps = λ s is qs left c. absurd (nothing_stands (subst (λ ls. Stands ls qs) (drop_past p.lines.items at h) c));
    fewer = λ left. out_falls (length p.lines.items) n (length p.lines.items - at) left v;
  }

  -- a statement without a body
  pub simple_moves : (at : ℕ) (line : Line) (few all : List Item) (v : Variables) (st : State) → slice_get p.lines.items at ≡ Some line → IsSimple line → ArePlain few → all ≡ At (at + 1) ∷ few → ((line' : Statement) (k : ℕ) → Says line line' → Becomes (above few) st ≡ statement line' v k) → Moves p n (At at) (Going v) all st
  simple_moves at line few all v st h i f is e = subst (λ xs. Moves p n (At at) (Going v) xs st) (sym is) (record {
    keeps = λ s of qs left c.
        let r = alone_goes s n left v i (here at line qs h c) in
        let rs = r.2.0 in (
          above few ++ rs,
          (above few, rs, refl, r.2.1, plain_cover p few (are_placeless few f)),
          subst (λ ps. Keeps s (qs ++ left) (Going v) ps st n) (sym (append_assoc (above few) rs left))
              (keeps_on s n _ _ _ _ _ _ r.2.2 (by_step s n (One r.0) (rs ++ left) (Going v) (above few) st (sym (e r.0 n r.1)))),
        );
    fewer = λ left.
        let line' = says line i in
        simple_falls (length p.lines.items) n line'.0 at few left v st (said_weight line line'.0 line'.1) (within p.lines.items at line h) f (e line'.0 n line'.1);
  })

  -- what comes next stands for these pieces
  at_covers : (next : ℕ) (rs : List Piece) → Stands (lines_at p next) rs → AllCover p (At next ∷ []) rs
  at_covers next rs h = ([], rs, refl, h, refl)

  behind : (at passed most next : ℕ) (rs : List Piece) → length p.lines.items ≤ most → next ≡ min (at + 1 + passed) most → Stands (drop passed (lines_at p (at + 1))) rs → Stands (lines_at p next) rs
  behind at passed most next rs h is g = subst (λ ls. Stands ls rs) (sym (ap (λ k. drop k p.lines.items) is ∙ drop_behind p.lines.items at passed most h)) g

  -- an `if` whose test holds
  pub then_moves : (at : ℕ) (t : Bor Test) (passed : ℕ) (v : Variables) → slice_get p.lines.items at ≡ Some (If t passed) → holds t.now v ≡ true → Moves p n (At at) (Going v) (At (at + 1) ∷ []) (Going v)
  then_moves at t passed v h y = record {
    keeps = λ s of qs left c.
        let r = then_goes s n left v y (here at (If t passed) qs h c) in
        (r.0, at_covers (at + 1) r.0 r.1, r.2);
    fewer = λ left. on_falls (length p.lines.items) n at (at + 1) left v v (within p.lines.items at (If t passed) h) (omega arith);
  }

  -- and one whose test fails
  pub otherwise_moves : (at : ℕ) (t : Bor Test) (passed most next : ℕ) (v : Variables) → slice_get p.lines.items at ≡ Some (If t passed) → holds t.now v ≡ false → length p.lines.items ≤ most → next ≡ min (at + 1 + passed) most → Moves p n (At at) (Going v) (At next ∷ []) (Going v)
  otherwise_moves at t passed most next v h y short is = record {
    keeps = λ s of qs left c.
        let r = otherwise_goes s n left v y (here at (If t passed) qs h c) in
        (r.0, at_covers next r.0 (behind at passed most next r.0 short is r.1), r.2);
    fewer = λ left. let l = within p.lines.items at (If t passed) h in on_falls (length p.lines.items) n at next left v v l (omega (arith, l, short, is));
  }

  pub else_moves : (at passed most next : ℕ) (v : Variables) → slice_get p.lines.items at ≡ Some (Else passed) → length p.lines.items ≤ most → next ≡ min (at + 1 + passed) most → Moves p n (At at) (Going v) (At next ∷ []) (Going v)
  else_moves at passed most next v h short is = record {
    keeps = λ s of qs left c.
        let r = else_goes s n left v (here at (Else passed) qs h c) in
        (r.0, at_covers next r.0 (behind at passed most next r.0 short is r.1), r.2);
    fewer = λ left. let l = within p.lines.items at (Else passed) h in on_falls (length p.lines.items) n at next left v v l (omega (arith, l, short, is));
  }

  pub end_moves : (at : ℕ) (v : Variables) → slice_get p.lines.items at ≡ Some End → Moves p n (At at) (Going v) [] (Going v)
  end_moves at v h = record {
    keeps = λ s of qs left c. ([], refl, end_goes s n left v (here at End qs h c));
    fewer = λ left. out_falls (length p.lines.items) n (length p.lines.items - at) left v;
  }

  -- what a `while` becomes whose test comes out so
  abbrev pub while_few : ℕ → Bool → ℕ → List Item
  while_few at b next = if b then PassEndItem at n ∷ At (at + 1) ∷ [] else At next ∷ []

  looped : {line : Statement} {rs : List Piece} (s : Tree) (at : ℕ) (t : Bor Test) (passed : ℕ) (left : List Piece) (v : Variables) (b : Bool) (most next : ℕ) → holds t.now v ≡ b → slice_get p.lines.items at ≡ Some (While t passed) → length p.lines.items ≤ most → next ≡ min (at + 1 + passed) most → IsWhile t passed (lines_at p (at + 1)) line rs → (qs : List Piece) × AllCover p (while_few at b next) qs × Keeps s (One line ∷ rs ++ left) (Going v) (qs ++ left) (Going v) n
  looped s at t passed left v true most next y h short is (is_while {k = k} {a = a} {left = rs} f g) = (
    Lines (items-the_row-Statement _ a) ∷ PassEnd (tree.While' t.now k a) n ∷ rs,
    (Lines (items-the_row-Statement _ a) ∷ [], PassEnd (tree.While' t.now k a) n ∷ rs, refl, (tree.While' t.now k a, rs, refl, loops h f g), at_covers (at + 1) _ f),
    by_step s n (One (tree.While' t.now k a)) (rs ++ left) (Going v) (Lines (items-the_row-Statement _ a) ∷ PassEnd (tree.While' t.now k a) n ∷ []) (Going v) (ap (λ z. if z then Becomes (Lines (items-the_row-Statement _ a) ∷ PassEnd (tree.While' t.now k a) n ∷ []) (Going v) else passes (Going v)) y),
  )
  looped s at t passed left v false most next y h short is (is_while {k = k} {a = a} {left = rs} f g) = (
    rs,
    at_covers next rs (behind at passed most next rs short is g),
    by_step s n (One (tree.While' t.now k a)) (rs ++ left) (Going v) [] (Going v) (ap (λ z. if z then Becomes (Lines (items-the_row-Statement _ a) ∷ PassEnd (tree.While' t.now k a) n ∷ []) (Going v) else passes (Going v)) y),
  )

  while_fewer : (at : ℕ) (b : Bool) (most next passed : ℕ) (left : List Piece) (v : Variables) → at < length p.lines.items → length p.lines.items ≤ most → next ≡ min (at + 1 + passed) most → steps_left no_tree n (all_long (length p.lines.items) n (while_few at b next) ++ left) (Going v) < steps_left no_tree n (Lines (statements (length p.lines.items - at)) ∷ left) (Going v)
  while_fewer at true most next passed left v l short is = while_falls (length p.lines.items) n at left v l
  while_fewer at false most next passed left v l short is = on_falls (length p.lines.items) n at next left v v l (omega (arith, l, short, is))

  -- a `while`
  pub while_moves : (at : ℕ) (t : Bor Test) (passed most next : ℕ) (v : Variables) → slice_get p.lines.items at ≡ Some (While t passed) → length p.lines.items ≤ most → next ≡ min (at + 1 + passed) most → Moves p n (At at) (Going v) (while_few at (holds t.now v) next) (Going v)
  while_moves at t passed most next v h short is = record {
    keeps = λ s of qs left c.
        let r = while_comes s n left v (here at (While t passed) qs h c) in
        let l = looped s at t passed left v (holds t.now v) most next refl h short is r.2 in
        (l.0, l.1, keeps_on s n _ _ _ _ _ _ r.3 l.2);
    fewer = λ left. while_fewer at (holds t.now v) most next passed left v (within p.lines.items at (While t passed) h) short is;
  }

  one_while : (at : ℕ) (t u : Bor Test) (passed skipped : ℕ) → slice_get p.lines.items at ≡ Some (While t passed) → slice_get p.lines.items at ≡ Some (While u skipped) → (t ≡ u) × (passed ≡ skipped)
  one_while at t u passed skipped h g = let e : Some (While t passed) ≡ Some (While u skipped) = sym h ∙ g in (cc, cc)

  loop_is : {line : Statement} {rs : List Piece} (at : ℕ) (t : Bor Test) (passed : ℕ) → slice_get p.lines.items at ≡ Some (While t passed) → IsLoop p at line rs → IsWhile t passed (lines_at p (at + 1)) line rs
  loop_is at t passed h (loops {t = u} {passed = skipped} {k = k} {a = a} {left = rs} g f e) =
      let same = one_while at t u passed skipped h g in
      subst (λ x. IsWhile x passed (lines_at p (at + 1)) (tree.While' u.now k a) rs) (sym same.0) (is_while f (subst (λ x. Stands (drop x (lines_at p (at + 1))) rs) (sym same.1) e))

  -- the same `while` once more
  pub once_moves : (at : ℕ) (t : Bor Test) (passed most next : ℕ) (v : Variables) → slice_get p.lines.items at ≡ Some (While t passed) → length p.lines.items ≤ most → next ≡ min (at + 1 + passed) most → Moves p n (Once at) (Going v) (while_few at (holds t.now v) next) (Going v)
  once_moves at t passed most next v h short is = record {
    keeps = λ s of qs left c.
        let l = looped s at t passed left v (holds t.now v) most next refl h short is (loop_is at t passed h c.3) in
        (l.0, l.1, subst (λ ps. Keeps s (ps ++ left) (Going v) (l.0 ++ left) (Going v) n) (sym c.2) l.2);
    fewer = λ left. while_fewer at (holds t.now v) most next passed left v (within p.lines.items at (While t passed) h) short is;
  }

  loopless : {line : Statement} {rs : List Piece} (at : ℕ) → IsLoop p at line rs → ((t : Bor Test) (passed : ℕ) → slice_get p.lines.items at ≡ Some (While t passed) → ⊥) → ⊥
  loopless at (loops {t = t} {passed = passed} g f e) h = h t passed g

  -- no `while` stands there
  pub no_loop_moves : (at : ℕ) (v : Variables) → ((t : Bor Test) (passed : ℕ) → slice_get p.lines.items at ≡ Some (While t passed) → ⊥) → Moves p n (Once at) (Going v) [] (Going v)
  no_loop_moves at v h = record {
    keeps = λ s of qs left c. absurd (loopless at c.3 h);
    fewer = λ left. out_falls (length p.lines.items) n (length p.lines.items - at) left v;
  }

  -- the end of a pass with an entry in it
  pub pass_moves : (at began : ℕ) (v : Variables) → (n == began) ≡ false → Moves p n (PassEndItem at began) (Going v) (Once at ∷ []) (Going v)
  pass_moves at began v y = record {
    keeps = λ s of qs left c. (
      One c.0 ∷ c.1,
      ([], One c.0 ∷ c.1, refl, (c.0, c.1, refl, c.3), refl),
      subst (λ ps. Keeps s (ps ++ left) (Going v) (One c.0 ∷ c.1 ++ left) (Going v) n) (sym c.2)
          (by_step s n (PassEnd c.0 began) (c.1 ++ left) (Going v) (One c.0 ∷ []) (Going v) (ap (λ z. if z then Becomes (Making Yield ∷ Quiet ∷ One c.0 ∷ []) (Going v) else Becomes (One c.0 ∷ []) (Going v)) y)),
    );
    fewer = λ left.
        let size = length p.lines.items in
        subst (λ b. steps_left no_tree n (Lines (statements (size - at)) ∷ left) (Going v) < steps_left no_tree n ((if b then PassEnd tree.Default began else Lines (statements (size - at + 1))) ∷ left) (Going v)) (sym y)
        (omega (arith, weighs (size - at), weighs (size - at + 1)));
  }

  -- and after it comes what the `while` does once more
  pub pass_on : (at began : ℕ) (v : Variables) (few : List Item) → (n == began) ≡ false → Moves p n (Once at) (Going v) few (Going v) → Moves p n (PassEndItem at began) (Going v) few (Going v)
  pass_on at began v few y m =
      let first = pass_moves at began v y in
      record {
        keeps = λ s of qs left c.
            let r = first.keeps s of qs left c in
            let same : r.0 ≡ r.1.1 = r.1.2 ∙ ap (λ xs. xs ++ r.1.1) r.1.4 in
            let q = m.keeps s of r.1.1 left r.1.3 in
            (q.0, q.1, keeps_on s n _ _ _ _ _ _ (subst (λ xs. Keeps s (qs ++ left) (Going v) (xs ++ left) (Going v) n) same r.2) q.2);
        fewer = λ left. omega (arith, first.fewer left, m.fewer left);
      }

  yield_falls : (at began : ℕ) (left : List Piece) (b : Bool) → b ≡ true → (n == began) ≡ b → 0 < (costs no_tree n ((if b then PassEnd tree.Default began else Lines (statements (length p.lines.items - at + 1))) ∷ left)).going
  yield_falls at began left true h y = subst (λ z. 0 < (if z then 1 else 2 + 3 + max (costs no_tree n left).going (costs no_tree n left).returning)) (sym y) (omega arith)
  yield_falls at began left false h y = absurd cc

  -- and without one
  pub yield_moves : (at began : ℕ) (v : Variables) → (n == began) ≡ true → Moves p n (PassEndItem at began) (Going v) (Once at ∷ QuietItem ∷ MakingItem Yield ∷ []) (Going v)
  yield_moves at began v y = record {
    keeps = λ s of qs left c. (
      Making Yield ∷ Quiet ∷ One c.0 ∷ c.1,
      (Making Yield ∷ Quiet ∷ [], One c.0 ∷ c.1, refl, (c.0, c.1, refl, c.3), plain_cover p (QuietItem ∷ MakingItem Yield ∷ []) (tt, (tt, tt))),
      subst (λ ps. Keeps s (ps ++ left) (Going v) (Making Yield ∷ Quiet ∷ One c.0 ∷ c.1 ++ left) (Going v) n) (sym c.2)
          (by_step s n (PassEnd c.0 began) (c.1 ++ left) (Going v) (Making Yield ∷ Quiet ∷ One c.0 ∷ []) (Going v) (ap (λ z. if z then Becomes (Making Yield ∷ Quiet ∷ One c.0 ∷ []) (Going v) else Becomes (One c.0 ∷ []) (Going v)) y)),
    );
    fewer = λ left. yield_falls at began left (n == began) y refl;
  }

  -- a procedure begins to run
  pub running_moves : (run : Run) (at : ℕ) (v : Variables) → at ≡ unwrap_or (slice_get p.procedures.items run.procedure) 0 → Moves p n (Running run) (Going v) (Restore v.parameters ∷ Leaving run ∷ At at ∷ []) (Going (inside_of v run.parameters))
  running_moves run at v e = record {
    keeps = λ s of qs left c.
        let body = Lines (procedure_of s run.procedure) in (
          body ∷ LeavingPiece run ∷ RestorePiece v.parameters ∷ [],
          (body ∷ LeavingPiece run ∷ [], RestorePiece v.parameters ∷ [], refl, refl, (body ∷ [], LeavingPiece run ∷ [], refl, refl, at_covers at (body ∷ []) (subst (λ k. Stands (lines_at p k) (body ∷ [])) (sym e) (of.procedures run.procedure)))),
          subst (λ ps. Keeps s (ps ++ left) (Going v) (body ∷ LeavingPiece run ∷ RestorePiece v.parameters ∷ left) (Going (inside_of v run.parameters)) n) (sym c)
              (by_step s n (RunningPiece run) left (Going v) (body ∷ LeavingPiece run ∷ RestorePiece v.parameters ∷ []) (Going (inside_of v run.parameters)) refl),
        );
    fewer = λ left. let size = length p.lines.items in omega (arith, weighs (size - at), weighs (size + 2));
  }

  -- an item that has or leads to a place
  abbrev pub IsPlaced : Item → Type 0
  IsPlaced (At at) = Unit {0}
  IsPlaced (Once at) = Unit {0}
  IsPlaced (PassEndItem at began) = Unit {0}
  IsPlaced (Running run) = Unit {0}
  IsPlaced item = ⊥

  -- a mode that hands something on
  abbrev pub Hands : Mode → Type 0
  Hands GoingMode = ⊥
  Hands mode = Unit {0}

  loop_lines : {line : Statement} {rs : List Piece} (at : ℕ) (left : List Piece) (s : Tree) (st : State) → IsLoop p at line rs → ((xs : List Statement) → step s (Lines xs) st n ≡ Becomes [] st) → Keeps s (rs ++ left) st left st n
  loop_lines at left s st (loops {left = rs} g f e) h = lines_pass s n rs left st (are_lines e) h

  placed_keeps : (item : Item) (mode : Mode) (v : Variables) → IsPlaced item → Hands mode → (s : Tree) (qs left : List Piece) → Covers p item qs → Keeps s (qs ++ left) (state_of v mode) left (state_of v mode) n
  placed_keeps item GoingMode v i h s qs left c = absurd h
  placed_keeps (At at) (ReturningMode x) v i h s qs left c = lines_pass s n qs left (Returning v x) (are_lines c) (λ xs. refl)
  placed_keeps (At at) (GivenMode a x) v i h s qs left c = lines_pass s n qs left (Given v a x) (are_lines c) (λ xs. refl)
  placed_keeps (Once at) (ReturningMode x) v i h s qs left c =
      subst (λ ps. Keeps s (ps ++ left) (Returning v x) left (Returning v x) n) (sym c.2)
      (keeps_on s n _ _ _ _ _ _ (by_step s n (One c.0) (c.1 ++ left) (Returning v x) [] (Returning v x) refl) (loop_lines at left s (Returning v x) c.3 (λ xs. refl)))
  placed_keeps (Once at) (GivenMode a x) v i h s qs left c =
      subst (λ ps. Keeps s (ps ++ left) (Given v a x) left (Given v a x) n) (sym c.2)
      (keeps_on s n _ _ _ _ _ _ (by_step s n (One c.0) (c.1 ++ left) (Given v a x) [] (Given v a x) refl) (loop_lines at left s (Given v a x) c.3 (λ xs. refl)))
  placed_keeps (PassEndItem at began) (ReturningMode x) v i h s qs left c =
      subst (λ ps. Keeps s (ps ++ left) (Returning v x) left (Returning v x) n) (sym c.2)
      (keeps_on s n _ _ _ _ _ _ (by_step s n (PassEnd c.0 began) (c.1 ++ left) (Returning v x) [] (Returning v x) refl) (loop_lines at left s (Returning v x) c.3 (λ xs. refl)))
  placed_keeps (PassEndItem at began) (GivenMode a x) v i h s qs left c =
      subst (λ ps. Keeps s (ps ++ left) (Given v a x) left (Given v a x) n) (sym c.2)
      (keeps_on s n _ _ _ _ _ _ (by_step s n (PassEnd c.0 began) (c.1 ++ left) (Given v a x) [] (Given v a x) refl) (loop_lines at left s (Given v a x) c.3 (λ xs. refl)))
  placed_keeps (Running run) (ReturningMode x) v i h s qs left c =
      subst (λ ps. Keeps s (ps ++ left) (Returning v x) left (Returning v x) n) (sym c) (by_step s n (RunningPiece run) left (Returning v x) [] (Returning v x) refl)
  placed_keeps (Running run) (GivenMode a x) v i h s qs left c =
      subst (λ ps. Keeps s (ps ++ left) (Given v a x) left (Given v a x) n) (sym c) (by_step s n (RunningPiece run) left (Given v a x) [] (Given v a x) refl)
  placed_keeps item mode v i h s qs left c = absurd i

  pass_returns : (b : Bool) (k began : ℕ) (left : List Piece) → (costs no_tree n left).returning < (costs no_tree n ((if b then PassEnd tree.Default began else Lines (statements k)) ∷ left)).returning
  pass_returns true k began left = omega arith
  pass_returns false k began left = omega arith

  pass_gives : (b : Bool) (k began : ℕ) (left : List Piece) → (costs no_tree n left).given < (costs no_tree n ((if b then PassEnd tree.Default began else Lines (statements k)) ∷ left)).given
  pass_gives true k began left = omega arith
  pass_gives false k began left = omega arith

  placed_fewer : (item : Item) (mode : Mode) (v : Variables) → IsPlaced item → Hands mode → (left : List Piece) → steps_left no_tree n left (state_of v mode) < steps_left no_tree n (as_long (length p.lines.items) n item ∷ left) (state_of v mode)
  placed_fewer item GoingMode v i h left = absurd h
  placed_fewer (At at) (ReturningMode x) v i h left = omega arith
  placed_fewer (At at) (GivenMode a x) v i h left = omega arith
  placed_fewer (Once at) (ReturningMode x) v i h left = omega arith
  placed_fewer (Once at) (GivenMode a x) v i h left = omega arith
  placed_fewer (PassEndItem at began) (ReturningMode x) v i h left = pass_returns (n == began) (length p.lines.items - at + 1) began left
  placed_fewer (PassEndItem at began) (GivenMode a x) v i h left = pass_gives (n == began) (length p.lines.items - at + 1) began left
  placed_fewer (Running run) (ReturningMode x) v i h left = omega arith
  placed_fewer (Running run) (GivenMode a x) v i h left = omega arith
  placed_fewer item mode v i h left = absurd i

  -- an item with a place passes on what it is handed
  pub placed_moves : (item : Item) (mode : Mode) (v : Variables) → IsPlaced item → Hands mode → Moves p n item (state_of v mode) [] (state_of v mode)
  placed_moves item mode v i h = record {
    keeps = λ s of qs left c. ([], refl, placed_keeps item mode v i h s qs left c);
    fewer = λ left. placed_fewer item mode v i h left;
  }

  -- in the mode that hands nothing on
  pub in_going : (item : Item) (few : List Item) (st : State) (v : Variables) (mode : Mode) → mode ≡ GoingMode → Moves p n item st few (Going v) → Moves p n item st few (state_of v mode)
  in_going item few st v mode e m = subst (λ x. Moves p n item st few (state_of v x)) (sym e) m

  pub placed_is : (item : Item) → (((x : ℕ) × (item ≡ At x)) ⊎ (((x : ℕ) × (item ≡ Once x)) ⊎ (((x : ℕ) × (y : ℕ) × (item ≡ PassEndItem x y)) ⊎ ((run : Run) × (item ≡ Running run))))) → IsPlaced item
  placed_is item (inl x) = subst IsPlaced (sym x.1) tt
  placed_is item (inr (inl x)) = subst IsPlaced (sym x.1) tt
  placed_is item (inr (inr (inl x))) = subst IsPlaced (sym x.2) tt
  placed_is item (inr (inr (inr x))) = subst IsPlaced (sym x.1) tt

  pub hands_on : (mode : Mode) → (mode ≡ GoingMode → ⊥) → Hands mode
  hands_on GoingMode h = h refl
  hands_on mode h = tt

  -- a step in the mode that hands nothing on
  pub going_from : (items new : List Item) (st : State) (v : Variables) (mode : Mode) → mode ≡ GoingMode → Steps p n items (state_of v mode) new st → Steps p n items (Going v) new st
  going_from items new st v mode e h = subst (λ x. Steps p n items (state_of v x) new st) e h

-- an answer passes the end of a procedure
pub leaving_given : (run : Run) (mode : Mode) (v : Variables) (s : Tree) (n : ℕ) → (mode ≡ GoingMode → ⊥) → ((x : ℕ) → mode ≡ ReturningMode x → ⊥) → Becomes [] (state_of v mode) ≡ step s (LeavingPiece run) (state_of v mode) n
leaving_given run GoingMode v s n h k = absurd (h refl)
leaving_given run (ReturningMode x) v s n h k = absurd (k x refl)
leaving_given run (GivenMode a x) v s n h k = refl

-- and a call that is made once more
pub again_given : (call : Call) (mode : Mode) (v : Variables) (s : Tree) (n : ℕ) → (mode ≡ GoingMode → ⊥) → ((x : ℕ) → mode ≡ ReturningMode x → ⊥) → Becomes [] (state_of v mode) ≡ step s (AgainPiece call) (state_of v mode) n
again_given call GoingMode v s n h k = absurd (h refl)
again_given call (ReturningMode x) v s n h k = absurd (k x refl)
again_given call (GivenMode a x) v s n h k = refl
