-- Columns of a row.
use Rattle.std.proofs.Common.{◌≡◌, ℕ, ◌+◌, ◌-◌, ◌<◌, ◌≤◌, Bool, true, false, ◌&&◌, ◌||◌, List, [], ◌∷◌, ◌++◌, take, drop, get_or, length, refl, sym, ap, subst, ◌∙◌, arith}
use Rattle.std.specs.Prelude.{ℤ, pos, negsuc, ◌≤ℤ◌, ◌<ℤ◌, int_le, All, set}
use Rattle.std.specs.List.{AllPairs}
use Rattle.std.proofs.lemmas.Bool.{false≢true}
use Rattle.std.proofs.lemmas.Int.{ints}
use Rattle.std.proofs.lemmas.List.Folds.{list_any_none, list_any-append}
use Rattle.std.proofs.lemmas.List.{take_at, take_all, take_more, take_more_set, length-set, set-get_or}
use Rattle.std.proofs.lemmas.List.Elements.{All-nil, All-head, All-more, All-weaker, All-push, All-take, All-contains, Contains-push}
use Rattle.win_num.specs.declared.shapes.Rect.{Rect}
use Rattle.band_region.specs.declared.columns.Mix.{Mix}
use Rattle.band_region.specs.declared.columns.Mix.TheVariants.{And, Or, Xor, Diff}
use Rattle.band_region.specs.declared.columns.Span.{Span}
use Rattle.band_region.specs.declared.columns.Stretch.{Stretch}
use Rattle.band_region.specs.Columns.{kept, column_in, spans_have, columns_have, IsLeftOf, IsStretch, IsRightOf, IsGood, IsRow, IsSpanAdded}
use Rattle.band_region.proofs.Geometry.{le_yes, lt_yes, le_no, lt_no, ≤ℤ-trans}
use Rattle.band_region.proofs.Lists.{pairs-nil, pairs-head, pairs-take, pairs-drop, pairs-push, pairs-last, pairs-rest, all-rest, any_back}

pub col_in : (l r x : ℤ) → l ≤ℤ x → x <ℤ r → column_in l r x ≡ true
unfolding column_in
col_in l r x h k = rw (le_yes l x h, lt_yes x r k) refl

pub col_before : (l r x : ℤ) → x <ℤ l → column_in l r x ≡ false
unfolding column_in
col_before l r x h = rw (le_no l x h) refl

pub col_after : (l r x : ℤ) → r ≤ℤ x → column_in l r x ≡ false
unfolding column_in
col_after l r x h = rw (lt_no x r h) (second (int_le l x))
  where
    second : (a : Bool) → (a && false) ≡ false
    second true = refl
    second false = refl

pub col_left : (l r x : ℤ) → column_in l r x ≡ true → l ≤ℤ x
unfolding column_in
col_left l r x h = grind (arith, ints)

pub col_right : (l r x : ℤ) → column_in l r x ≡ true → x <ℤ r
unfolding column_in
col_right l r x h = grind (arith, ints)

pub no_columns : (rs : List Rect) (x : ℤ) → All (λ r. r.r ≤ℤ x) rs → columns_have rs x ≡ false
no_columns rs x h = list_any_none (λ r. column_in r.l r.r x) rs (All-weaker (λ r. r.r ≤ℤ x) (λ r. column_in r.l r.r x ≡ false) (λ r k. col_after r.l r.r x k) rs h)

pub no_columns_yet : (rs : List Rect) (x : ℤ) → All (λ r. x <ℤ r.l) rs → columns_have rs x ≡ false
no_columns_yet rs x h = list_any_none (λ r. column_in r.l r.r x) rs (All-weaker (λ r. x <ℤ r.l) (λ r. column_in r.l r.r x ≡ false) (λ r k. col_before r.l r.r x k) rs h)

-- no column lies outside of the plane
pub no_column_far : (rs : List Rect) (x : ℤ) → pos 8388608 ≤ℤ x → columns_have rs x ≡ false
no_column_far rs x h = no_columns rs x (λ k d i. ≤ℤ-trans _ _ _ ((get_or rs k d).right_near) h)

pub no_column_before : (rs : List Rect) (x : ℤ) → x <ℤ negsuc 8388607 → columns_have rs x ≡ false
no_column_before rs x h = no_columns_yet rs x (λ k d i. let n = (get_or rs k d).left_near in omega (arith, ints))

pub kept_none : (mix : Mix) → kept mix false false ≡ false
kept_none And = refl
kept_none Or = refl
kept_none Xor = refl
kept_none Diff = refl

-- a stretch of columns
pub stretch_none : (x : ℤ) (s : Stretch) → x <ℤ pos 8388608 → s.inside ≡ false → s.end ≡ pos 8388608 → IsStretch [] x s
stretch_none x s h e f = record { on = omega (arith, ints); near = omega (arith, ints); same = λ z a b. sym e }

pub stretch_in : (first : Rect) (others : List Rect) (x : ℤ) (s : Stretch) → All (λ r. x <ℤ r.r) (first ∷ others) → first.l ≤ℤ x → s.inside ≡ true → s.end ≡ first.r → IsStretch (first ∷ others) x s
stretch_in first others x s a h e f =
    let on : x <ℤ first.r = All-head (λ r. x <ℤ r.r) first others a in
    let near = first.right_near in
    record {
      on = omega (arith, ints);
      near = omega (arith, ints);
      same = λ z m n. ap (λ b. b || columns_have others z) (col_in first.l first.r z (≤ℤ-trans _ _ _ h m) (omega (arith, ints))) ∙ sym e;
    }

pub stretch_out : (first : Rect) (others : List Rect) (x : ℤ) (s : Stretch) → AllPairs IsLeftOf (first ∷ others) → x <ℤ first.l → s.inside ≡ false → s.end ≡ first.l → IsStretch (first ∷ others) x s
stretch_out first others x s p h e f =
    let near = first.right_near in
    let across = first.across in
    record {
      on = omega (arith, ints);
      near = omega (arith, ints);
      same = λ z m n.
          let later : All (λ r. z <ℤ r.l) others = All-weaker (IsLeftOf first) (λ r. z <ℤ r.l) (λ r k. let q : first.r <ℤ r.l = k in omega (arith, ints)) others (pairs-head IsLeftOf first others p) in
          ap (λ b. b || columns_have others z) (col_before first.l first.r z (omega (arith, ints))) ∙ no_columns_yet others z later ∙ sym e;
    }

pub stretch_in_at : (row : List Rect) (first : Rect) (others : List Rect) (x : ℤ) (s : Stretch) → row ≡ first ∷ others → All (λ r. x <ℤ r.r) row → first.l ≤ℤ x → s.inside ≡ true → s.end ≡ first.r → IsStretch row x s
stretch_in_at row first others x s e a h f g = subst (λ ys. IsStretch ys x s) (sym e) (stretch_in first others x s (subst (λ ys. All (λ r. x <ℤ r.r) ys) e a) h f g)

pub stretch_out_at : (row : List Rect) (first : Rect) (others : List Rect) (x : ℤ) (s : Stretch) → row ≡ first ∷ others → AllPairs IsLeftOf row → x <ℤ first.l → s.inside ≡ false → s.end ≡ first.l → IsStretch row x s
stretch_out_at row first others x s e p h f g = subst (λ ys. IsStretch ys x s) (sym e) (stretch_out first others x s (subst (λ ys. AllPairs IsLeftOf ys) e p) h f g)

-- what lies right of a column
pub right_at : (row : List Rect) (x : ℤ) (i : ℕ) (d : Rect) → i < length row → AllPairs IsLeftOf row → All (λ r. r.r ≤ℤ x) (take i row) → x <ℤ (get_or row i d).r → IsRightOf row x (drop i row)
right_at row x i d h p a k = record {
  apart = pairs-drop IsLeftOf i row p;
  ahead = all-rest (λ r. x <ℤ r.r) row i d h k (All-weaker (IsLeftOf (get_or row i d)) (λ r. x <ℤ r.r) (λ r q. let across = r.across in let g : (get_or row i d).r <ℤ r.l = q in omega (arith, ints)) _ (pairs-rest IsLeftOf row i d h p));
  same = λ z m. sym (any_back (λ r. column_in r.l r.r z) i row (no_columns (take i row) z (All-weaker (λ r. r.r ≤ℤ x) (λ r. r.r ≤ℤ z) (λ r q. ≤ℤ-trans _ _ _ q m) (take i row) a)));
}

pub right_none : (row : List Rect) (x : ℤ) → All (λ r. r.r ≤ℤ x) row → IsRightOf row x []
right_none row x a = record {
  apart = pairs-nil IsLeftOf;
  ahead = All-nil (λ r. x <ℤ r.r);
  same = λ z m. sym (no_columns row z (All-weaker (λ r. r.r ≤ℤ x) (λ r. r.r ≤ℤ z) (λ r q. ≤ℤ-trans _ _ _ q m) row a));
}

pub right_here : (row rest : List Rect) (x x' : ℤ) (i : ℕ) (r : Rect) → rest ≡ drop i row → x' ≡ x → i < length row → r ≡ get_or row i r → AllPairs IsLeftOf row → All (λ q. q.r ≤ℤ x') (take i row) → x <ℤ r.r → IsRightOf row x rest
right_here row rest x x' i r e f h g p a k = subst (λ ys. IsRightOf row x ys) (sym e) (right_at row x i r h p (subst (λ y. All (λ q. q.r ≤ℤ y) (take i row)) f a) (subst (λ q. x <ℤ q.r) g k))

pub right_gone : (row : List Rect) (x x' : ℤ) (i : ℕ) → x' ≡ x → length row ≤ i → All (λ q. q.r ≤ℤ x') (take i row) → IsRightOf row x []
right_gone row x x' i f h a = right_none row x (subst (λ ys. All (λ q. q.r ≤ℤ x) ys) (take_all i row h) (subst (λ y. All (λ q. q.r ≤ℤ y) (take i row)) f a))

pub ended_more : (row : List Rect) (x x' : ℤ) (i : ℕ) (r : Rect) → x' ≡ x → i < length row → r ≡ get_or row i r → All (λ q. q.r ≤ℤ x') (take i row) → r.r ≤ℤ x → All (λ q. q.r ≤ℤ x') (take (i + 1) row)
ended_more row x x' i r f h g a k = All-more (λ q. q.r ≤ℤ x') row i r h a (subst (λ q. q.r ≤ℤ x') g (omega (arith, ints)))

-- spans that are added
pub no_spans : (spans : List Span) (x : ℤ) → All (λ s. s.r ≤ℤ x) spans → spans_have spans x ≡ false
no_spans spans x h = list_any_none (λ s. column_in s.l s.r x) spans (All-weaker (λ s. s.r ≤ℤ x) (λ s. column_in s.l s.r x ≡ false) (λ s k. col_after s.l s.r x k) spans h)

or_none : (a : Bool) → (a || false) ≡ a
or_none true = refl
or_none false = refl

pub spans-push : (spans : List Span) (s : Span) (x : ℤ) → spans_have (spans ++ s ∷ []) x ≡ (spans_have spans x || column_in s.l s.r x)
spans-push spans s x = list_any-append (λ t. column_in t.l t.r x) spans (s ∷ []) ∙ ap (λ b. spans_have spans x || b) (or_none (column_in s.l s.r x))

pub span_pushed : (old : List Span) (s : Span) (l r : ℤ) → IsRow old → All (λ t. t.r <ℤ l) old → s.l ≡ l → s.r ≡ r → l <ℤ r → negsuc 8388607 ≤ℤ l → r ≤ℤ pos 8388608 → IsSpanAdded old l r (old ++ s ∷ [])
span_pushed old s l r w a e f h m n = record {
  row = record {
    good = All-push IsGood old s w.good (record { across = omega (arith, ints); left_near = omega (arith, ints); right_near = omega (arith, ints) });
    apart = pairs-push (λ t u. t.r <ℤ u.l) old s w.apart (All-weaker (λ t. t.r <ℤ l) (λ t. t.r <ℤ s.l) (λ t k. omega (arith, ints)) old a);
  };
  ended = All-push (λ t. t.r ≤ℤ r) old s (All-weaker (λ t. t.r <ℤ l) (λ t. t.r ≤ℤ r) (λ t k. omega (arith, ints)) old a) (omega (arith, ints));
  same = λ z. rw (← e, ← f) (spans-push old s z);
}

-- the front and the last span of a row
pub row-front : (front : List Span) (last : Span) → IsRow (front ++ last ∷ []) → IsRow front
row-front front last w = record {
  good = subst (λ ss. All IsGood ss) (take_at front (last ∷ []) (length front) refl) (All-take IsGood (length front) (front ++ last ∷ []) w.good);
  apart = subst (λ ss. AllPairs (λ t u. t.r <ℤ u.l) ss) (take_at front (last ∷ []) (length front) refl) (pairs-take (λ t u. t.r <ℤ u.l) (length front) (front ++ last ∷ []) w.apart);
}

pub last_good : (front : List Span) (last : Span) → IsRow (front ++ last ∷ []) → IsGood last
last_good front last w = All-contains IsGood (front ++ last ∷ []) last w.good (Contains-push front last)

col_joined : (l m r z : ℤ) → l ≤ℤ m → m ≤ℤ r → column_in l r z ≡ (column_in l m z || column_in m r z)
unfolding column_in
col_joined l m r z h k = grind (arith, ints)

or_assoc : (a b c : Bool) → (a || (b || c)) ≡ ((a || b) || c)
or_assoc true b c = refl
or_assoc false b c = refl

-- the last span is made longer
pub span_joined : (old front : List Span) (last s : Span) (l r : ℤ) → old ≡ front ++ last ∷ [] → IsRow old → last.r ≡ l → s.l ≡ last.l → s.r ≡ r → l <ℤ r → r ≤ℤ pos 8388608 → IsSpanAdded old l r (front ++ s ∷ [])
span_joined old front last s l r e w f g h k m =
    let row : IsRow (front ++ last ∷ []) = subst IsRow e w in
    let good = last_good front last row in
    let across : last.l <ℤ last.r = good.across in
    let left : negsuc 8388607 ≤ℤ last.l = good.left_near in
    let added = span_pushed front s last.l r (row-front front last row) (pairs-last (λ t u. t.r <ℤ u.l) front last row.apart) g h (omega (arith, ints)) left m in
    record {
      row = added.row;
      ended = added.ended;
      same = λ z. added.same z ∙ (ap (λ b. spans_have front z || b) (col_joined last.l l r z (omega (arith, ints)) (omega (arith, ints))) ∙ (or_assoc (spans_have front z) (column_in last.l l z) (column_in l r z) ∙ ap (λ b. b || column_in l r z) (sym (rw (e, ← f) (spans-push front last z)))));
    }

-- the front of a row of n spans and its last one
whole : (old : List Span) (n : ℕ) (last : Span) → n ≡ length old → 0 < n → last ≡ get_or old (n - 1) last → old ≡ take (n - 1) old ++ last ∷ []
whole old n last m h e =
    sym (take_all ((n - 1) + 1) old (omega arith)) ∙ (take_more old (n - 1) last (omega arith) ∙ ap (λ s. take (n - 1) old ++ s ∷ []) (sym e))

pub last_joined : (old : List Span) (n : ℕ) (last s : Span) (l r : ℤ) → n ≡ length old → 0 < n → last ≡ get_or old (n - 1) last → IsRow old → last.r ≡ l → s.l ≡ last.l → s.r ≡ r → l <ℤ r → r ≤ℤ pos 8388608
    → IsSpanAdded old l r (set old (n - 1) s)
last_joined old n last s l r m h e w f g k a b =
    let is : take (n - 1) old ++ s ∷ [] ≡ set old (n - 1) s = sym (take_more_set old (n - 1) s (omega arith)) ∙ take_all ((n - 1) + 1) (set old (n - 1) s) (rw (length-set old (n - 1) s) (omega arith)) in
    subst (λ ss. IsSpanAdded old l r ss) is (span_joined old (take (n - 1) old) last s l r (whole old n last m h e) w f g k a b)

-- where the last span doesn't touch a column, none does
pub ended_apart : (old : List Span) (n : ℕ) (last : Span) (l : ℤ) → n ≡ length old → 0 < n → last ≡ get_or old (n - 1) last → IsRow old → All (λ t. t.r ≤ℤ l) old → (last.r ≡ l → ⊥) → All (λ t. t.r <ℤ l) old
ended_apart old n last l m h e w a apart = let front = take (n - 1) old in let parts = whole old n last m h e in
    let row : IsRow (front ++ last ∷ []) = subst IsRow parts w in
    let end : last.r ≤ℤ l = All-contains (λ t. t.r ≤ℤ l) (front ++ last ∷ []) last (subst (All (λ t. t.r ≤ℤ l)) parts a) (Contains-push front last) in
    let across : last.l <ℤ last.r = (last_good front last row).across in
    subst (All (λ t. t.r <ℤ l)) (sym parts) (All-push (λ t. t.r <ℤ l) front last (All-weaker (λ t. t.r <ℤ last.l) (λ t. t.r <ℤ l) (λ t q. omega (arith, ints)) front (pairs-last (λ t u. t.r <ℤ u.l) front last row.apart)) (less end apart))
  where
    less : {a b : ℤ} → a ≤ℤ b → (a ≡ b → ⊥) → a <ℤ b
    less {a = a} {b = b} q n = omega (arith, ints, n)

-- the last span is put back
pub last_kept : (old : List Span) (i : ℕ) (last : Span) → last ≡ get_or old i last → set old i last ≡ old
last_kept old i last e = ap (λ s. set old i s) e ∙ set-get_or old i last

pub none_ended : (old : List Span) (n : ℕ) (l : ℤ) → n ≡ length old → (0 < n → false ≡ true) → All (λ t. t.r <ℤ l) old
none_ended [] n l m h = All-nil (λ t. t.r <ℤ l)
none_ended (s ∷ ss) n l m h = absurd (false≢true (h (omega arith)))

pub added_at : {old new ss : List Span} {l r : ℤ} → new ≡ ss → IsSpanAdded old l r ss → IsSpanAdded old l r new
added_at {old = old} {l = l} {r = r} e a = subst (λ xs. IsSpanAdded old l r xs) (sym e) a
