-- The sweep over the columns of two rows.
use Rattle.std.proofs.Common.{◌≡◌, Bool, true, false, ◌||◌, List, [], refl, sym, subst, ◌∙◌, arith}
use Rattle.std.specs.Prelude.{ℤ, pos, negsuc, ◌≤ℤ◌, ◌<ℤ◌, All}
use Rattle.std.proofs.lemmas.Int.{ints, by_lt_z}
use Rattle.std.proofs.lemmas.List.Elements.{All-nil, All-weaker}
use Rattle.win_num.specs.declared.shapes.Rect.{Rect}
use Rattle.band_region.specs.declared.columns.Mix.{Mix}
use Rattle.band_region.specs.declared.columns.Span.{Span}
use Rattle.band_region.specs.declared.columns.Stretch.{Stretch}
use Rattle.band_region.specs.Columns.{kept, column_in, spans_have, columns_have, IsStretch, IsRightOf, IsGood, IsRow, IsSpanAdded, IsMixedRow}
use Rattle.band_region.proofs.Lists.{pairs-nil}
use Rattle.band_region.proofs.Spans.{col_in, col_before, no_spans, no_column_far, no_column_before, kept_none}

-- the spans have the columns before x that are kept of two rows, of which so much is left
pub record RowSwept (mix : Mix) (first second ones others : List Rect) (spans : List Span) (x : ℤ) : Type 0 where
  pub from : negsuc 8388607 ≤ℤ x
  pub to : x ≤ℤ pos 8388608
  pub row : IsRow spans
  pub ended : All (λ s. s.r ≤ℤ x) spans
  pub same : (z : ℤ) → z <ℤ x → spans_have spans z ≡ kept mix (columns_have first z) (columns_have second z)
  pub left : IsRightOf first x ones
  pub left_too : IsRightOf second x others

row-none : IsRow []
row-none = record { good = All-nil IsGood; apart = pairs-nil (λ s t. s.r <ℤ t.l) }

pub row_start : (mix : Mix) (first second ones others : List Rect) (spans : List Span) (x : ℤ) → spans ≡ [] → x ≡ negsuc 8388607 → IsRightOf first x ones → IsRightOf second x others → RowSwept mix first second ones others spans x
row_start mix first second ones others spans x e f a b = record {
  from = omega (arith, ints);
  to = omega (arith, ints);
  row = subst IsRow (sym e) row-none;
  ended = subst (λ ss. All (λ s. s.r ≤ℤ x) ss) (sym e) (All-nil (λ s. s.r ≤ℤ x));
  same = λ z h. rw (e, no_column_before first z (omega (arith, ints)), no_column_before second z (omega (arith, ints))) (sym (kept_none mix));
  left = a;
  left_too = b;
}

right-trans : (row ones rest : List Rect) (x y : ℤ) → x ≤ℤ y → IsRightOf row x ones → IsRightOf ones y rest → IsRightOf row y rest
right-trans row ones rest x y h a b = record {
  apart = b.apart;
  ahead = b.ahead;
  same = λ z k. b.same z k ∙ a.same z (omega (arith, ints));
}

-- what is kept in a stretch of both rows
stretch_kept : (mix : Mix) (first second ones others : List Rect) (x : ℤ) (s t : Stretch) (z : ℤ) → IsRightOf first x ones → IsRightOf second x others → IsStretch ones x s → IsStretch others x t → x ≤ℤ z → z <ℤ s.end → z <ℤ t.end → kept mix (columns_have first z) (columns_have second z) ≡ kept mix s.inside t.inside
stretch_kept mix first second ones others x s t z a b p q h k m =
    rw (← a.same z h, ← b.same z h, p.same z h k, q.same z h m) refl

or_true : (a b : Bool) → b ≡ true → (a || b) ≡ true
or_true true b h = refl
or_true false b h = h

or_false : (a b : Bool) → b ≡ false → (a || b) ≡ a
or_false true b h = refl
or_false false b h = h

pub row_kept : (mix : Mix) (first second ones others : List Rect) (spans : List Span) (x : ℤ) (s t : Stretch) (y : ℤ) (new : List Span) (rest rests : List Rect) →
    RowSwept mix first second ones others spans x → IsStretch ones x s → IsStretch others x t → y ≤ℤ s.end → y ≤ℤ t.end → x <ℤ y →
    kept mix s.inside t.inside ≡ true → IsSpanAdded spans x y new → IsRightOf ones y rest → IsRightOf others y rests → RowSwept mix first second rest rests new y
row_kept mix first second ones others spans x s t y new rest rests w p q hs ht h k a r u =
    let from = w.from in
    let near = p.near in
    record {
      from = omega (arith, ints);
      to = omega (arith, ints);
      row = a.row;
      ended = a.ended;
      same = λ z m. a.same z ∙ by_lt_z z x
          (λ n. or_false (spans_have spans z) (column_in x y z) (col_before x y z n) ∙ w.same z n)
          (λ n. or_true (spans_have spans z) (column_in x y z) (col_in x y z n m) ∙ sym (stretch_kept mix first second ones others x s t z w.left w.left_too p q n (omega (arith, ints)) (omega (arith, ints)) ∙ k));
      left = right-trans first ones rest x y (omega (arith, ints)) w.left r;
      left_too = right-trans second others rests x y (omega (arith, ints)) w.left_too u;
    }

pub row_skipped : (mix : Mix) (first second ones others : List Rect) (spans : List Span) (x : ℤ) (s t : Stretch) (y : ℤ) (rest rests : List Rect) →
    RowSwept mix first second ones others spans x → IsStretch ones x s → IsStretch others x t → y ≤ℤ s.end → y ≤ℤ t.end → x <ℤ y →
    kept mix s.inside t.inside ≡ false → IsRightOf ones y rest → IsRightOf others y rests → RowSwept mix first second rest rests spans y
row_skipped mix first second ones others spans x s t y rest rests w p q hs ht h k r u =
    let from = w.from in
    let near = p.near in
    record {
      from = omega (arith, ints);
      to = omega (arith, ints);
      row = w.row;
      ended = All-weaker (λ v. v.r ≤ℤ x) (λ v. v.r ≤ℤ y) (λ v m. omega (arith, ints)) spans w.ended;
      same = λ z m. by_lt_z z x
          (λ n. w.same z n)
          (λ n. no_spans spans z (All-weaker (λ v. v.r ≤ℤ x) (λ v. v.r ≤ℤ z) (λ v o. omega (arith, ints)) spans w.ended) ∙ sym (stretch_kept mix first second ones others x s t z w.left w.left_too p q n (omega (arith, ints)) (omega (arith, ints)) ∙ k));
      left = right-trans first ones rest x y (omega (arith, ints)) w.left r;
      left_too = right-trans second others rests x y (omega (arith, ints)) w.left_too u;
    }

pub row_done : (mix : Mix) (first second ones others : List Rect) (spans : List Span) (x : ℤ) → pos 8388608 ≤ℤ x → RowSwept mix first second ones others spans x → IsMixedRow mix first second spans
row_done mix first second ones others spans x h w = record {
  row = w.row;
  same = λ z. by_lt_z z x
      (λ n. w.same z n)
      (λ n. rw (no_spans spans z (All-weaker (λ v. v.r ≤ℤ x) (λ v. v.r ≤ℤ z) (λ v o. omega (arith, ints)) spans w.ended), no_column_far first z (omega (arith, ints)), no_column_far second z (omega (arith, ints))) (sym (kept_none mix)));
}

pub spans_at : {mix : Mix} {first second ones others : List Rect} {spans new : List Span} {x : ℤ} → new ≡ spans → RowSwept mix first second ones others spans x → RowSwept mix first second ones others new x
spans_at {mix = mix} {first = first} {second = second} {ones = ones} {others = others} {x = x} e w = subst (λ ss. RowSwept mix first second ones others ss x) (sym e) w
