-- The sweep over the rows of two regions.
use Rattle.std.proofs.Common.{◌≡◌, Bool, true, false, ◌&&◌, ◌||◌, ◌⊎◌, inl, inr, List, [], take, get_or, refl, sym, ap, subst, ◌∙◌, arith}
use Rattle.std.specs.Prelude.{ℤ, pos, negsuc, ◌-ℤ◌, ◌≤ℤ◌, ◌<ℤ◌, All, Contains}
use Rattle.std.specs.List.{AllPairs}
use Rattle.std.proofs.lemmas.Int.{ints, by_lt_z}
use Rattle.std.proofs.lemmas.List.Folds.{list_any_at}
use Rattle.std.proofs.lemmas.List.Elements.{All-nil, All-weaker, All-contains}
use Rattle.win_num.specs.declared.shapes.Point.{Point}
use Rattle.win_num.specs.declared.shapes.Rect.{Rect}
use Rattle.band_region.specs.declared.columns.Mix.{Mix}
use Rattle.band_region.specs.declared.columns.Span.{Span}
use Rattle.band_region.specs.declared.bands.Rows.{Rows}
use Rattle.band_region.specs.Regions.{rect_has, region_has, IsFilled, IsBefore, SameRows}
use Rattle.band_region.specs.Columns.{kept, column_in, spans_have, IsGood, IsRow, IsMixedRow}
use Rattle.band_region.specs.Bands.{IsRowsAt, IsBelow, IsBandAdded, IsMixed}
use Rattle.band_region.proofs.Lists.{pairs-nil}
use Rattle.band_region.proofs.Pixels.{rect_from_at}
use Rattle.band_region.proofs.Spans.{col_in, col_before, kept_none}
use Rattle.band_region.proofs.Rows.{none_above, no_pixel_far, no_pixel_before}
use Rattle.band_region.proofs.Unique.{one_row}

-- whether a pixel is kept
abbrev pub target : Mix → List Rect → List Rect → Point → Bool
target mix first second p = kept mix (region_has first p) (region_has second p)

-- the rectangles have the pixels above the top, and the rows from there down to y have the columns of the row
pub record Swept (mix : Mix) (first second ones others rects : List Rect) (row : List Span) (top y : ℤ) : Type 0 where
  pub from : negsuc 8388607 ≤ℤ top
  pub order : top ≤ℤ y
  pub to : y ≤ℤ pos 8388608
  pub filled : All IsFilled rects
  pub apart : AllPairs IsBefore rects
  pub above : All (λ r. r.b ≤ℤ top) rects
  pub merged : All (λ r. ¬ (SameRows (target mix first second) (r.b -ℤ pos 1) r.b)) rects
  pub same : (p : Point) → p.y <ℤ top → region_has rects p ≡ target mix first second p
  pub spans : IsRow row
  pub down : All (λ _. top <ℤ y) row
  pub band : (p : Point) → top ≤ℤ p.y → p.y <ℤ y → spans_have row p.x ≡ target mix first second p
  pub last : (x : ℤ) → spans_have row x ≡ target mix first second (record { x = x; y = y -ℤ pos 1 })
  pub left : IsBelow first y ones
  pub left_too : IsBelow second y others

-- from a row on up to another one the row has the columns that are kept
pub record IsSlab (mix : Mix) (first second : List Rect) (row : List Span) (y z : ℤ) : Type 0 where
  pub on : y <ℤ z
  pub to : z ≤ℤ pos 8388608
  pub spans : IsRow row
  pub same : (p : Point) → y ≤ℤ p.y → p.y <ℤ z → spans_have row p.x ≡ target mix first second p

pub slab_of : (mix : Mix) (first second ones others : List Rect) (row : List Span) (y z : ℤ) (s t : Rows) (front back : List Rect) → IsBelow first y ones → IsBelow second y others → IsRowsAt ones y s → IsRowsAt others y t → front ≡ take s.count ones → back ≡ take t.count others → IsMixedRow mix front back row → y <ℤ z → z ≤ℤ s.end → z ≤ℤ t.end → IsSlab mix first second row y z
slab_of mix first second ones others row y z s t front back a b p q ef eb m on hs ht =
    let near = p.near in
    record {
      on = on;
      to = omega (arith, ints);
      spans = m.row;
      same = λ u h k. m.same u.x ∙ rw (ef, eb, ← p.same u h (omega (arith, ints)), ← q.same u h (omega (arith, ints)), a.same u h, b.same u h) refl;
    }

row-none : IsRow []
row-none = record { good = All-nil IsGood; apart = pairs-nil (λ s t. s.r <ℤ t.l) }

pub sweep_start : (mix : Mix) (first second ones others rects : List Rect) (row : List Span) (top y : ℤ) → rects ≡ [] → row ≡ [] → top ≡ negsuc 8388607 → y ≡ top → IsBelow first y ones → IsBelow second y others → Swept mix first second ones others rects row top y
sweep_start mix first second ones others rects row top y e f g h a b =
    subst (λ rs. Swept mix first second ones others rs row top y) (sym e) (subst (λ ss. Swept mix first second ones others [] ss top y) (sym f) (record {
      from = omega (arith, ints);
      order = omega (arith, ints);
      to = omega (arith, ints);
      filled = All-nil IsFilled;
      apart = pairs-nil IsBefore;
      above = All-nil (λ r. r.b ≤ℤ top);
      merged = All-nil (λ r. ¬ (SameRows (target mix first second) (r.b -ℤ pos 1) r.b));
      same = λ p k. nothing p (omega (arith, ints));
      spans = row-none;
      down = All-nil (λ _. top <ℤ y);
      band = λ p k m. absurd (omega (arith, ints));
      last = λ x. nothing (record { x = x; y = y -ℤ pos 1 }) (omega (arith, ints));
      left = a;
      left_too = b;
    }))
  where
    nothing : (p : Point) → p.y <ℤ negsuc 8388607 → false ≡ target mix first second p
    nothing p k = sym (rw (no_pixel_before first p k, no_pixel_before second p k) (kept_none mix))

below-trans : (rs ones rest : List Rect) (y z : ℤ) → y ≤ℤ z → IsBelow rs y ones → IsBelow ones z rest → IsBelow rs z rest
below-trans rs ones rest y z h a b = record {
  apart = b.apart;
  ahead = b.ahead;
  same = λ p k. b.same p k ∙ a.same p (omega (arith, ints));
}

-- the rows go on as they are
pub sweep_on : (mix : Mix) (first second ones others rects rest rests : List Rect) (row next : List Span) (top y z : ℤ) → Swept mix first second ones others rects row top y → IsSlab mix first second next y z → next ≡ row → IsBelow ones z rest → IsBelow others z rests → Swept mix first second rest rests rects next top z
sweep_on mix first second ones others rects rest rests row next top y z w s e a b =
    let order = w.order in
    let on = s.on in
    subst (λ ss. Swept mix first second rest rests rects ss top z) (sym e) (record {
      from = w.from;
      order = omega (arith, ints);
      to = s.to;
      filled = w.filled;
      apart = w.apart;
      above = w.above;
      merged = w.merged;
      same = w.same;
      spans = w.spans;
      down = λ k d h. omega (arith, ints);
      band = λ p h k. by_lt_z p.y y (λ m. w.band p h m) (λ m. ap (λ ss. spans_have ss p.x) (sym e) ∙ s.same p m k);
      last = λ x. ap (λ ss. spans_have ss x) (sym e) ∙ s.same (record { x = x; y = z -ℤ pos 1 }) (omega (arith, ints)) (omega (arith, ints));
      left = below-trans first ones rest y z (omega (arith, ints)) w.left a;
      left_too = below-trans second others rests y z (omega (arith, ints)) w.left_too b;
    })

none_false : (o b : Bool) → (o || (false && b)) ≡ o
none_false true b = refl
none_false false b = refl

none_first : (o c b : Bool) → o ≡ false → c ≡ true → (o || (c && b)) ≡ b
none_first o c b e f = rw (e, f) refl

-- the pixels above y once the band is added
added_same : (mix : Mix) (first second ones others rects new : List Rect) (row : List Span) (top y : ℤ) → Swept mix first second ones others rects row top y → IsBandAdded rects row top y new → (p : Point) → p.y <ℤ y → region_has new p ≡ target mix first second p
added_same mix first second ones others rects new row top y w g p h = g.same p ∙ by_lt_z p.y top
    (λ k. ap (λ b. region_has rects p || (b && spans_have row p.x)) (col_before top y p.y k) ∙ (none_false (region_has rects p) (spans_have row p.x) ∙ w.same p k))
    (λ k. none_first (region_has rects p) (column_in top y p.y) (spans_have row p.x) (none_above rects p (All-weaker (λ r. r.b ≤ℤ top) (λ r. r.b ≤ℤ p.y) (λ r m. omega (arith, ints)) rects w.above)) (col_in top y p.y k h) ∙ w.band p k h)

-- a row that differs ends the band
pub sweep_turn : (mix : Mix) (first second ones others rects new rest rests : List Rect) (row next : List Span) (top y z : ℤ) → Swept mix first second ones others rects row top y → IsSlab mix first second next y z → (next ≡ row → ⊥) → IsBandAdded rects row top y new → IsBelow ones z rest → IsBelow others z rests → Swept mix first second rest rests new next y z
sweep_turn mix first second ones others rects new rest rests row next top y z w s n g a b =
    let from = w.from in
    let order = w.order in
    let on = s.on in
    record {
      from = omega (arith, ints);
      order = omega (arith, ints);
      to = s.to;
      filled = g.filled w.filled;
      apart = g.apart w.apart;
      above = λ k d h. above (get_or new k d) (g.bottoms k d h);
      merged = λ k d h. merged (get_or new k d) (g.bottoms k d h);
      same = added_same mix first second ones others rects new row top y w g;
      spans = s.spans;
      down = λ k d h. omega (arith, ints);
      band = λ p h k. s.same p h k;
      last = λ x. s.same (record { x = x; y = z -ℤ pos 1 }) (omega (arith, ints)) (omega (arith, ints));
      left = below-trans first ones rest y z (omega (arith, ints)) w.left a;
      left_too = below-trans second others rests y z (omega (arith, ints)) w.left_too b;
    }
  where
    above : (r : Rect) → Contains rects r ⊎ (r.b ≡ y) → r.b ≤ℤ y
    above r (inl c) = let o = w.order in let k : r.b ≤ℤ top = All-contains (λ q. q.b ≤ℤ top) rects r w.above c in omega (arith, ints)
    above r (inr e) = omega (arith, ints)

    differ : SameRows (target mix first second) (y -ℤ pos 1) y → ⊥
    differ h = let on : y <ℤ z = s.on in n (one_row next row s.spans w.spans (λ x. s.same (record { x = x; y = y }) (omega (arith, ints)) on ∙ (sym (h x) ∙ sym (w.last x))))

    merged : (r : Rect) → Contains rects r ⊎ (r.b ≡ y) → ¬ (SameRows (target mix first second) (r.b -ℤ pos 1) r.b)
    merged r (inl c) = All-contains (λ q. ¬ (SameRows (target mix first second) (q.b -ℤ pos 1) q.b)) rects r w.merged c
    merged r (inr e) = λ h. differ (subst (λ v. SameRows (target mix first second) (v -ℤ pos 1) v) e h)

-- all rows are done
all_done : (mix : Mix) (first second ones others rects new : List Rect) (row : List Span) (top y : ℤ) → pos 8388608 ≤ℤ y → Swept mix first second ones others rects row top y → IsBandAdded rects row top y new → IsMixed mix first second new
all_done mix first second ones others rects new row top y far w g = record {
  banded = record {
    filled = g.filled w.filled;
    apart = g.apart w.apart;
    merged = λ k d h s. merged (get_or new k d) (g.bottoms k d h) (g.filled w.filled k d h) (λ p t. list_any_at (λ q. rect_has q p) new k d h t) (λ x. sym (same (record { x = x; y = (get_or new k d).b -ℤ pos 1 })) ∙ (s x ∙ same (record { x = x; y = (get_or new k d).b })));
  };
  same = same;
}
  where
    nothing : (p : Point) → y ≤ℤ p.y → target mix first second p ≡ false
    nothing p h = rw (no_pixel_far first p (omega (arith, ints)), no_pixel_far second p (omega (arith, ints))) (kept_none mix)

    out : (p : Point) → y ≤ℤ p.y → region_has new p ≡ false
    out p h = no_pixel_far new p (omega (arith, ints))

    same : (p : Point) → region_has new p ≡ target mix first second p
    same p = by_lt_z p.y y (added_same mix first second ones others rects new row top y w g p) (λ h. out p h ∙ sym (nothing p h))

    merged : (r : Rect) → Contains rects r ⊎ (r.b ≡ y) → IsFilled r → ((p : Point) → rect_has r p ≡ true → region_has new p ≡ true) → SameRows (target mix first second) (r.b -ℤ pos 1) r.b → ⊥
    merged r (inl c) f m = All-contains (λ q. ¬ (SameRows (target mix first second) (q.b -ℤ pos 1) q.b)) rects r w.merged c
    merged r (inr e) f m = λ h.
        let across = f.0 in
        let down = f.1 in
        let p : Point = record { x = r.l; y = r.b -ℤ pos 1 } in
        let in-last : region_has new p ≡ true = m p (rect_from_at r p (record { left = omega (arith, ints); right = omega (arith, ints); top = omega (arith, ints); bottom = omega (arith, ints) })) in
        let off : target mix first second (record { x = r.l; y = r.b }) ≡ false = nothing (record { x = r.l; y = r.b }) (omega (arith, ints)) in
        let wrong : true ≡ false = sym in-last ∙ (same p ∙ (h r.l ∙ off)) in
        absurd (grind arith)

pub sweep_end : (mix : Mix) (first second ones others rects new : List Rect) (row : List Span) (top y : ℤ) → pos 8388608 ≤ℤ y → Swept mix first second ones others rects row top y → IsBandAdded rects row top (pos 8388608) new → IsMixed mix first second new
sweep_end mix first second ones others rects new row top y far w g =
    let to = w.to in
    let end : pos 8388608 ≡ y = omega (arith, ints) in
    all_done mix first second ones others rects new row top y far w (subst (λ z. IsBandAdded rects row top z new) end g)

-- the same of a list and a top that are known by another name
pub swept_at : {mix : Mix} {first second ones others rects rects' : List Rect} {row : List Span} {top top' y : ℤ} → rects' ≡ rects → top' ≡ top → Swept mix first second ones others rects row top y → Swept mix first second ones others rects' row top' y
swept_at {mix = mix} {first = first} {second = second} {ones = ones} {others = others} {rects' = rects'} {row = row} {top = top} {y = y} e f w =
    subst (λ t. Swept mix first second ones others rects' row t y) (sym f) (subst (λ rs. Swept mix first second ones others rs row top y) (sym e) w)

pub added_at : {old new : List Rect} {row row' : List Span} {top bottom : ℤ} → row' ≡ row → IsBandAdded old row' top bottom new → IsBandAdded old row top bottom new
added_at {old = old} {new = new} {top = top} {bottom = bottom} e g = subst (λ ss. IsBandAdded old ss top bottom new) e g

-- the last band ends below its top
pub down_to : {mix : Mix} {first second ones others rects : List Rect} {row : List Span} {top y : ℤ} → Swept mix first second ones others rects row top y → pos 8388608 ≤ℤ y → All (λ _. top <ℤ pos 8388608) row
down_to {row = row} w h = let to = w.to in λ k d i. let n = w.down k d i in omega (arith, ints)
