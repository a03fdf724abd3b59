-- One list in bands for a set of pixels, and one row of spans for a set of columns.
use Rattle.std.proofs.Common.{◌≡◌, ℕ, ◌<◌, Bool, true, false, not, ◌&&◌, ◌||◌, ◌⊎◌, inl, inr, List, [], ◌∷◌, zero, suc, get_or, length, refl, sym, ap, subst, ◌∙◌, arith}
use Rattle.std.specs.Prelude.{ℤ, pos, negsuc, ◌-ℤ◌, ◌≤ℤ◌, ◌<ℤ◌, All, IsTrue, ◌↔◌}
use Rattle.std.specs.List.{AllPairs}
use Rattle.std.specs.Ordering.{int_eq}
use lib.Pointwise.{pointwise}
use Rattle.std.proofs.lemmas.Bool.Decides.{Decides-int_eq}
use Rattle.std.proofs.Props.{props}
use Rattle.std.proofs.lemmas.Int.{ints, by_lt_z}
use Rattle.std.proofs.lemmas.List.{get_or_default}
use Rattle.std.proofs.lemmas.List.Elements.{All-head, All-tail}
use Rattle.win_num.specs.declared.shapes.Point.{Point}
use Rattle.win_num.specs.declared.shapes.Rect.{Rect}
use Rattle.band_region.specs.declared.columns.Span.{Span}
use Rattle.band_region.specs.Regions.{rect_has, region_has, IsFilled, IsBefore, IsBanded, SameRows, IsSameSet}
use Rattle.band_region.specs.Columns.{column_in, spans_have, IsGood, IsRow}
use Rattle.band_region.proofs.Lists.{pairs-head, pairs-tail, any_agree}
use Rattle.band_region.proofs.Pixels.{at_from_rect, rect_from_at}
use Rattle.band_region.proofs.Sets.{either, or_first, corner, corner_has}
use Rattle.band_region.proofs.Spans.{col_in, col_left, col_right}
use Rattle.band_region.proofs.Rows.{rect_upper, rect_lower, rect_row, tops_down}

not_less : (a b : ℤ) → (a <ℤ b → ⊥) → b ≤ℤ a
not_less a b n = by_lt_z a b (λ h. absurd (n h)) (λ h. h)

same_z : (a b : ℤ) → a ≤ℤ b → b ≤ℤ a → a ≡ b
same_z a b h k = omega (arith, ints)

pub false_true : {P : Type 0} → false ≡ true → P
false_true e = cc

-- columns of later spans lie beyond the first one
beyond : (s : Span) (ss : List Span) (x : ℤ) → All (λ t. s.r <ℤ t.l) ss → spans_have ss x ≡ true → s.r <ℤ x
beyond s [] x a h = false_true h
beyond s (t ∷ ss) x a h = either (column_in t.l t.r x) (spans_have ss x) (s.r <ℤ x) h
    (λ k. let n : s.r <ℤ t.l = All-head (λ u. s.r <ℤ u.l) t ss a in let m = col_left t.l t.r x k in omega (arith, ints))
    (λ k. beyond s ss x (All-tail (λ u. s.r <ℤ u.l) t ss a) k)

from_first : (s : Span) (ss : List Span) (x : ℤ) → s.l <ℤ s.r → All (λ t. s.r <ℤ t.l) ss → spans_have (s ∷ ss) x ≡ true → s.l ≤ℤ x
from_first s ss x f a h = either (column_in s.l s.r x) (spans_have ss x) (s.l ≤ℤ x) h
    (λ k. col_left s.l s.r x k)
    (λ k. let n = beyond s ss x a k in omega (arith, ints))

row-rest : (s : Span) (ss : List Span) → IsRow (s ∷ ss) → IsRow ss
row-rest s ss w = record { good = All-tail IsGood s ss w.good; apart = pairs-tail (λ t u. t.r <ℤ u.l) s ss w.apart }

first-across : (s : Span) (ss : List Span) → IsRow (s ∷ ss) → s.l <ℤ s.r
first-across s ss w = let g = All-head IsGood s ss w.good in g.across

first-apart : (s : Span) (ss : List Span) → IsRow (s ∷ ss) → All (λ t. s.r <ℤ t.l) ss
first-apart s ss w = pairs-head (λ t u. t.r <ℤ u.l) s ss w.apart

first-in : (s : Span) (ss : List Span) → IsRow (s ∷ ss) → spans_have (s ∷ ss) s.l ≡ true
first-in s ss w = or_first (column_in s.l s.r s.l) (spans_have ss s.l) (col_in s.l s.r s.l (omega (arith, ints)) (first-across s ss w))

left_most : (s t : Span) (ss ts : List Span) → IsRow (s ∷ ss) → IsRow (t ∷ ts) → ((x : ℤ) → spans_have (s ∷ ss) x ≡ spans_have (t ∷ ts) x) → s.l ≤ℤ t.l
left_most s t ss ts v w e = from_first s ss t.l (first-across s ss v) (first-apart s ss v) (e t.l ∙ first-in t ts w)

right_most : (s t : Span) (ss ts : List Span) → IsRow (s ∷ ss) → IsRow (t ∷ ts) → t.l ≤ℤ s.r → ((x : ℤ) → spans_have (s ∷ ss) x ≡ spans_have (t ∷ ts) x) → t.r ≤ℤ s.r
right_most s t ss ts v w h e = not_less s.r t.r (λ k.
    let i : spans_have (s ∷ ss) s.r ≡ true = e s.r ∙ or_first (column_in t.l t.r s.r) (spans_have ts s.r) (col_in t.l t.r s.r h k) in
    either (column_in s.l s.r s.r) (spans_have ss s.r) ⊥ i
    (λ m. let n = col_right s.l s.r s.r m in absurd (omega (arith, ints)))
    (λ m. let n = beyond s ss s.r (first-apart s ss v) m in absurd (omega (arith, ints))))

-- tests that agree on two lists agree on the rest, where the first elements are the same and apart
rest_agrees : (a b c : Bool) → (a || b) ≡ (a || c) → (a ≡ true → b ≡ false) → (a ≡ true → c ≡ false) → b ≡ c
rest_agrees true b c e f g = f refl ∙ sym (g refl)
rest_agrees false b c e f g = e

pub no_true : (b : Bool) → (b ≡ true → ⊥) → b ≡ false
no_true true f = absurd (f refl)
no_true false f = refl

span_same : (s t : Span) → s.l ≡ t.l → s.r ≡ t.r → s ≡ t
span_same s t e f = λ i. record { l = e i; r = f i }

cons_same : {X : Type 0} {x y : X} {xs ys : List X} → x ≡ y → xs ≡ ys → x ∷ xs ≡ y ∷ ys
cons_same e f = cc

pub one_row : (ss ts : List Span) → IsRow ss → IsRow ts → ((x : ℤ) → spans_have ss x ≡ spans_have ts x) → ss ≡ ts
one_row [] [] v w e = refl
one_row [] (t ∷ ts) v w e = false_true (e t.l ∙ first-in t ts w)
one_row (s ∷ ss) [] v w e = false_true (sym (e s.l) ∙ first-in s ss v)
one_row (s ∷ ss) (t ∷ ts) v w e =
    let el : s.l ≡ t.l = same_z s.l t.l (left_most s t ss ts v w e) (left_most t s ts ss w v (λ x. sym (e x))) in
    let sa = first-across s ss v in
    let ta = first-across t ts w in
    let er : s.r ≡ t.r = same_z s.r t.r (right_most t s ts ss w v (omega (arith, ints)) (λ x. sym (e x))) (right_most s t ss ts v w (omega (arith, ints)) e) in
    let f = span_same s t el er in
    cons_same f (one_row ss ts (row-rest s ss v) (row-rest t ts w) (λ x.
    rest_agrees (column_in s.l s.r x) (spans_have ss x) (spans_have ts x)
    (subst (λ (u : Span). (column_in s.l s.r x || spans_have ss x) ≡ (column_in u.l u.r x || spans_have ts x)) (sym f) (e x))
    (λ h. no_true (spans_have ss x) (λ k. let m = col_right s.l s.r x h in let n = beyond s ss x (first-apart s ss v) k in absurd (omega (arith, ints))))
    (λ h. no_true (spans_have ts x) (λ k. let m = col_right s.l s.r x h in let n = beyond t ts x (first-apart t ts w) k in absurd (omega (arith, ints))))))

-- a part of a list in bands, whose pixels are a part of the set's
record IsPart (has : Point → Bool) (rs : List Rect) : Type 0 where
  filled : All IsFilled rs
  apart : AllPairs IsBefore rs
  merged : All (λ r. ¬ (SameRows has (r.b -ℤ pos 1) r.b)) rs
  level : All (λ r. (y : ℤ) → r.t <ℤ y → y <ℤ r.b → SameRows has (y -ℤ pos 1) y) rs

part-rest : (has : Point → Bool) (r : Rect) (rs : List Rect) → IsPart has (r ∷ rs) → IsPart has rs
part-rest has r rs w = record {
  filled = All-tail IsFilled r rs w.filled;
  apart = pairs-tail IsBefore r rs w.apart;
  merged = All-tail (λ q. ¬ (SameRows has (q.b -ℤ pos 1) q.b)) r rs w.merged;
  level = All-tail (λ q. (y : ℤ) → q.t <ℤ y → y <ℤ q.b → SameRows has (y -ℤ pos 1) y) r rs w.level;
}

-- pixels of later rectangles lie below the first one or right of it
right_beyond : (r : Rect) (rs : List Rect) (p : Point) → All (IsBefore r) rs → region_has rs p ≡ true → p.y <ℤ r.b → r.r <ℤ p.x
right_beyond r [] p a h k = false_true h
right_beyond r (s ∷ rs) p a h k = either (rect_has s p) (region_has rs p) (r.r <ℤ p.x) h
    (λ m. here (All-head (IsBefore r) s rs a) m)
    (λ m. right_beyond r rs p (All-tail (IsBefore r) s rs a) m k)
  where
    here : IsBefore r s → rect_has s p ≡ true → r.r <ℤ p.x
    here (inl b) m =
        let i = at_from_rect s p m in
        let t : s.t ≤ℤ p.y = i.top in
        absurd (omega (arith, ints))
    here (inr b) m =
        let i = at_from_rect s p m in
        let t : s.l ≤ℤ p.x = i.left in
        let n = b.2 in
        omega (arith, ints)

top_most : (r : Rect) (rs : List Rect) (p : Point) → All (IsBefore r) rs → region_has (r ∷ rs) p ≡ true → r.t ≤ℤ p.y
top_most r rs p a h = either (rect_has r p) (region_has rs p) (r.t ≤ℤ p.y) h
    (λ m. let i = at_from_rect r p m in i.top)
    (λ m. later rs a m)
  where
    later : (ss : List Rect) → All (IsBefore r) ss → region_has ss p ≡ true → r.t ≤ℤ p.y
    later [] b m = false_true m
    later (s ∷ ss) b m = either (rect_has s p) (region_has ss p) (r.t ≤ℤ p.y) m
        (λ n. let i = at_from_rect s p n in let t : s.t ≤ℤ p.y = i.top in let d = tops_down r s (All-head (IsBefore r) s ss b) in omega (arith, ints))
        (λ n. later ss (All-tail (IsBefore r) s ss b) n)

first-corner : (has : Point → Bool) (r : Rect) (rs : List Rect) → IsPart has (r ∷ rs) → region_has (r ∷ rs) (corner r) ≡ true
first-corner has r rs w = or_first (rect_has r (corner r)) (region_has rs (corner r)) (corner_has r (All-head IsFilled r rs w.filled))

first-before : (has : Point → Bool) (r : Rect) (rs : List Rect) → IsPart has (r ∷ rs) → All (IsBefore r) rs
first-before has r rs w = pairs-head IsBefore r rs w.apart

first_top : (has : Point → Bool) (r s : Rect) (rs ss : List Rect) → IsPart has (r ∷ rs) → IsPart has (s ∷ ss) → ((p : Point) → region_has (r ∷ rs) p ≡ region_has (s ∷ ss) p) → r.t ≤ℤ s.t
unfolding corner
first_top has r s rs ss v w e = top_most r rs (corner s) (first-before has r rs v) (e (corner s) ∙ first-corner has s ss w)

first_left : (has : Point → Bool) (r s : Rect) (rs ss : List Rect) → IsPart has (r ∷ rs) → IsPart has (s ∷ ss) → r.t ≡ s.t → ((p : Point) → region_has (r ∷ rs) p ≡ region_has (s ∷ ss) p) → r.l ≤ℤ s.l
unfolding corner
first_left has r s rs ss v w t e =
    let f : IsFilled r = All-head IsFilled r rs v.filled in
    let across = f.0 in
    let down = f.1 in
    either (rect_has r (corner s)) (region_has rs (corner s)) (r.l ≤ℤ s.l) (e (corner s) ∙ first-corner has s ss w)
    (λ m. let i = at_from_rect r (corner s) m in i.left)
    (λ m. let n : r.r <ℤ s.l = right_beyond r rs (corner s) (first-before has r rs v) m (omega (arith, ints)) in omega (arith, ints))

first_right : (has : Point → Bool) (r s : Rect) (rs ss : List Rect) → IsPart has (r ∷ rs) → IsPart has (s ∷ ss) → r.t ≡ s.t → r.l ≡ s.l → ((p : Point) → region_has (r ∷ rs) p ≡ region_has (s ∷ ss) p) → s.r ≤ℤ r.r
first_right has r s rs ss v w t l e = not_less r.r s.r (λ k.
    let f : IsFilled r = All-head IsFilled r rs v.filled in
    let g : IsFilled s = All-head IsFilled s ss w.filled in
    let across = f.0 in
    let down = f.1 in
    let low = g.1 in
    let p : Point = record { x = r.r; y = r.t } in
    let i : region_has (r ∷ rs) p ≡ true = e p ∙ or_first (rect_has s p) (region_has ss p) (rect_from_at s p (record { left = omega (arith, ints); right = k; top = omega (arith, ints); bottom = omega (arith, ints) })) in
    either (rect_has r p) (region_has rs p) ⊥ i
    (λ m. let a = at_from_rect r p m in let n : r.r <ℤ r.r = a.right in absurd (omega (arith, ints)))
    (λ m. let n : r.r <ℤ r.r = right_beyond r rs p (first-before has r rs v) m down in absurd (omega (arith, ints))))

first_bottom : (has : Point → Bool) (r s : Rect) (rs ss : List Rect) → IsPart has (r ∷ rs) → IsPart has (s ∷ ss) → r.t ≡ s.t → s.b ≤ℤ r.b
first_bottom has r s rs ss v w t = not_less r.b s.b (λ k.
    let f : IsFilled r = All-head IsFilled r rs v.filled in
    let down = f.1 in
    All-head (λ q. ¬ (SameRows has (q.b -ℤ pos 1) q.b)) r rs v.merged (All-head (λ q. (y : ℤ) → q.t <ℤ y → y <ℤ q.b → SameRows has (y -ℤ pos 1) y) s ss w.level r.b (omega (arith, ints)) k))

-- an order of whole numbers has one proof at most
order_proof : (a b : ℤ) (h k : a ≤ℤ b) → h ≡ k
order_proof a b h k = let one : IsProp (a ≤ℤ b) = hlevel props in one h k

-- the rectangle is the one of these edges
abbrev Same : Rect → ℤ → ℤ → ℤ → ℤ → Type 0
Same r x y z w = (across : x ≤ℤ z) (down : y ≤ℤ w) (left : negsuc 8388607 ≤ℤ x) (top : negsuc 8388607 ≤ℤ y) (right : z ≤ℤ pos 8388608) (bottom : w ≤ℤ pos 8388608) → r ≡ record { l = x; t = y; r = z; b = w; across = across; down = down; left_near = left; top_near = top; right_near = right; bottom_near = bottom }

same-here : (r : Rect) → Same r r.l r.t r.r r.b
same-here r a d l t g o = λ i. record { l = r.l; t = r.t; r = r.r; b = r.b; across = order_proof _ _ r.across a i; down = order_proof _ _ r.down d i; left_near = order_proof _ _ r.left_near l i; top_near = order_proof _ _ r.top_near t i; right_near = order_proof _ _ r.right_near g i; bottom_near = order_proof _ _ r.bottom_near o i }

-- rectangles with the same edges are the same
pub rect_same : (r s : Rect) → r.l ≡ s.l → r.t ≡ s.t → r.r ≡ s.r → r.b ≡ s.b → r ≡ s
rect_same r s el et er eb =
    subst (λ (z : ℤ). Same r s.l s.t s.r z) eb (subst (λ (z : ℤ). Same r s.l s.t z r.b) er (subst (λ (z : ℤ). Same r s.l z r.r r.b) et (subst (λ (z : ℤ). Same r z r.t r.r r.b) el (same-here r)))) s.across s.down s.left_near s.top_near s.right_near s.bottom_near

-- later rectangles have no pixel of the first one
pub no_later : (q : Rect) (qs : List Rect) (p : Point) → rect_has q p ≡ true → All (IsBefore q) qs → region_has qs p ≡ true → ⊥
no_later q qs p h a k =
    let i = at_from_rect q p h in
    let x : p.x <ℤ q.r = i.right in
    let y : p.y <ℤ q.b = i.bottom in
    let n = right_beyond q qs p a k y in
    absurd (omega (arith, ints))

one_part : (has : Point → Bool) (rs ss : List Rect) → IsPart has rs → IsPart has ss → ((p : Point) → region_has rs p ≡ region_has ss p) → rs ≡ ss
one_part has [] [] v w e = refl
one_part has [] (s ∷ ss) v w e = false_true (e (corner s) ∙ first-corner has s ss w)
one_part has (r ∷ rs) [] v w e = false_true (sym (e (corner r)) ∙ first-corner has r rs v)
one_part has (r ∷ rs) (s ∷ ss) v w e =
    let back : (p : Point) → region_has (s ∷ ss) p ≡ region_has (r ∷ rs) p = λ p. sym (e p) in
    let et : r.t ≡ s.t = same_z r.t s.t (first_top has r s rs ss v w e) (first_top has s r ss rs w v back) in
    let el : r.l ≡ s.l = same_z r.l s.l (first_left has r s rs ss v w et e) (first_left has s r ss rs w v (sym et) back) in
    let er : r.r ≡ s.r = same_z r.r s.r (first_right has s r ss rs w v (sym et) (sym el) back) (first_right has r s rs ss v w et el e) in
    let eb : r.b ≡ s.b = same_z r.b s.b (first_bottom has s r ss rs w v (sym et)) (first_bottom has r s rs ss v w et) in
    let f = rect_same r s el et er eb in
    cons_same f (one_part has rs ss (part-rest has r rs v) (part-rest has s ss w) (λ p.
    rest_agrees (rect_has r p) (region_has rs p) (region_has ss p)
    (subst (λ (u : Rect). (rect_has r p || region_has rs p) ≡ (rect_has u p || region_has ss p)) (sym f) (e p))
    (λ h. no_true (region_has rs p) (no_later r rs p h (first-before has r rs v)))
    (λ h. no_true (region_has ss p) (no_later r ss p h (subst (λ u. All (IsBefore u) ss) (sym f) (first-before has s ss w))))))

by_order : {P : Type 0} (m n : ℕ) → (m < n → P) → (n < m → P) → (m ≡ n → P) → P
by_order zero zero f g h = h refl
by_order zero (suc n) f g h = f (omega arith)
by_order (suc m) zero f g h = g (omega arith)
by_order (suc m) (suc n) f g h = by_order m n (λ k. f (omega arith)) (λ k. g (omega arith)) (λ k. h (ap (λ v. suc v) k))

-- the rows of a rectangle in a list in order are the same
level_with : (r u : Rect) (y x : ℤ) → (IsBefore r u ⊎ IsBefore u r ⊎ (u ≡ r)) → r.t <ℤ y → y <ℤ r.b → rect_has u (record { x = x; y = y -ℤ pos 1 }) ≡ rect_has u (record { x = x; y = y })
level_with r u y x h k m = cases h
  where
    above : u.b ≤ℤ r.t → rect_has u (record { x = x; y = y -ℤ pos 1 }) ≡ rect_has u (record { x = x; y = y })
    above n = rect_upper u (record { x = x; y = y -ℤ pos 1 }) (omega (arith, ints)) ∙ sym (rect_upper u (record { x = x; y = y }) (omega (arith, ints)))

    lower : r.b ≤ℤ u.t → rect_has u (record { x = x; y = y -ℤ pos 1 }) ≡ rect_has u (record { x = x; y = y })
    lower n = rect_lower u (record { x = x; y = y -ℤ pos 1 }) (omega (arith, ints)) ∙ sym (rect_lower u (record { x = x; y = y }) (omega (arith, ints)))

    beside : u.t ≡ r.t → u.b ≡ r.b → rect_has u (record { x = x; y = y -ℤ pos 1 }) ≡ rect_has u (record { x = x; y = y })
    beside e f = rect_row u (record { x = x; y = y -ℤ pos 1 }) (omega (arith, ints)) (omega (arith, ints)) ∙ sym (rect_row u (record { x = x; y = y }) (omega (arith, ints)) (omega (arith, ints)))

    cases : (IsBefore r u ⊎ IsBefore u r ⊎ (u ≡ r)) → rect_has u (record { x = x; y = y -ℤ pos 1 }) ≡ rect_has u (record { x = x; y = y })
    cases (inl (inl n)) = lower n
    cases (inl (inr n)) = beside (sym n.0) (sym n.1)
    cases (inr (inl (inl n))) = above n
    cases (inr (inl (inr n))) = beside n.0 n.1
    cases (inr (inr n)) = beside (ap (λ (v : Rect). v.t) n) (ap (λ (v : Rect). v.b) n)

pub rows_level : (rs : List Rect) → AllPairs IsBefore rs → All (λ r. (y : ℤ) → r.t <ℤ y → y <ℤ r.b → SameRows (region_has rs) (y -ℤ pos 1) y) rs
rows_level rs p = λ k d h y m n x. any_agree (λ u. rect_has u (record { x = x; y = y -ℤ pos 1 })) (λ u. rect_has u (record { x = x; y = y })) rs
    (λ j c i. subst (λ u. rect_has u (record { x = x; y = y -ℤ pos 1 }) ≡ rect_has u (record { x = x; y = y })) (get_or_default rs j d c i) (level_with (get_or rs k d) (get_or rs j d) y x (placed k d h j i) m n))
  where
    placed : (k : ℕ) (d : Rect) (h : k < length rs) (j : ℕ) (i : j < length rs) → IsBefore (get_or rs k d) (get_or rs j d) ⊎ IsBefore (get_or rs j d) (get_or rs k d) ⊎ (get_or rs j d ≡ get_or rs k d)
    placed k d h j i = by_order k j (λ a. inl (p k j d a i)) (λ a. inr (inl (p j k d a h))) (λ a. inr (inr (ap (λ n. get_or rs n d) (sym a))))

part_of : (rs : List Rect) → IsBanded rs → IsPart (region_has rs) rs
part_of rs b = record { filled = b.filled; apart = b.apart; merged = b.merged; level = rows_level rs b.apart }

part_at : (has other : Point → Bool) (rs : List Rect) → ((p : Point) → has p ≡ other p) → IsPart has rs → IsPart other rs
part_at has other rs e w = record {
  filled = w.filled;
  apart = w.apart;
  merged = λ k d h s. w.merged k d h (λ x. e _ ∙ (s x ∙ sym (e _)));
  level = λ k d h y m n x. sym (e _) ∙ (w.level k d h y m n x ∙ e _);
}

-- two lists in bands with the same pixels are equal
pub one_list : (rs ss : List Rect) → IsBanded rs → IsBanded ss → IsSameSet rs ss → rs ≡ ss
one_list rs ss v w e = one_part (region_has ss) rs ss (part_at (region_has rs) (region_has ss) rs e (part_of rs v)) (part_of ss w) e

-- what `==` says of rectangles and of spans
abbrev pub same_edges : Rect → Rect → Bool
same_edges r s = int_eq r.l s.l && (int_eq r.t s.t && (int_eq r.r s.r && int_eq r.b s.b))

abbrev pub same_span : Span → Span → Bool
same_span s t = int_eq s.l t.l && int_eq s.r t.r

both_first : (a b : Bool) → (a && b) ≡ true → a ≡ true
both_first true b h = refl
both_first false b h = h

both_second : (a b : Bool) → (a && b) ≡ true → b ≡ true
both_second true b h = h
both_second false b h = false_true h

both : (a b : Bool) → a ≡ true → b ≡ true → (a && b) ≡ true
both true b h k = k
both false b h k = h

int_same : (a b : ℤ) → int_eq a b ≡ true → a ≡ b
int_same a b h = (Decides-int_eq a b).0 h

int_own : (a : ℤ) → int_eq a a ≡ true
int_own a = (Decides-int_eq a a).1 refl

all_same : {X : Type 0} (E : X → X → Bool) → ((x y : X) → E x y ≡ true → x ≡ y) → (xs ys : List X) → pointwise E xs ys ≡ true → xs ≡ ys
all_same E f [] [] h = refl
all_same E f [] (y ∷ ys) h = false_true h
all_same E f (x ∷ xs) [] h = false_true h
all_same E f (x ∷ xs) (y ∷ ys) h = cons_same (f x y (both_first (E x y) (pointwise E xs ys) h)) (all_same E f xs ys (both_second (E x y) (pointwise E xs ys) h))

all_own : {X : Type 0} (E : X → X → Bool) → ((x : X) → E x x ≡ true) → (xs : List X) → pointwise E xs xs ≡ true
all_own E f [] = refl
all_own E f (x ∷ xs) = both (E x x) (pointwise E xs xs) (f x) (all_own E f xs)

edges_same : (r s : Rect) → same_edges r s ≡ true → r ≡ s
edges_same r s h =
    let h2 = both_second (int_eq r.l s.l) (int_eq r.t s.t && (int_eq r.r s.r && int_eq r.b s.b)) h in
    let h3 = both_second (int_eq r.t s.t) (int_eq r.r s.r && int_eq r.b s.b) h2 in
    rect_same r s (int_same r.l s.l (both_first (int_eq r.l s.l) _ h)) (int_same r.t s.t (both_first (int_eq r.t s.t) _ h2)) (int_same r.r s.r (both_first (int_eq r.r s.r) _ h3)) (int_same r.b s.b (both_second (int_eq r.r s.r) (int_eq r.b s.b) h3))

edges_own : (r : Rect) → same_edges r r ≡ true
edges_own r = both (int_eq r.l r.l) _ (int_own r.l) (both (int_eq r.t r.t) _ (int_own r.t) (both (int_eq r.r r.r) _ (int_own r.r) (int_own r.b)))

pub rects_same : (rs ss : List Rect) → pointwise same_edges rs ss ≡ true → rs ≡ ss
rects_same rs ss h = all_same same_edges edges_same rs ss h

pub rects_own : (rs ss : List Rect) → rs ≡ ss → pointwise same_edges rs ss ≡ true
rects_own rs ss e = subst (λ (xs : List Rect). pointwise same_edges rs xs ≡ true) e (all_own same_edges edges_own rs)

pub spans_same : (ss ts : List Span) → pointwise same_span ss ts ≡ true → ss ≡ ts
spans_same ss ts h = all_same same_span (λ s t k. span_same s t (int_same s.l t.l (both_first (int_eq s.l t.l) (int_eq s.r t.r) k)) (int_same s.r t.r (both_second (int_eq s.l t.l) (int_eq s.r t.r) k))) ss ts h

pub spans_own : (ss ts : List Span) → ss ≡ ts → pointwise same_span ss ts ≡ true
spans_own ss ts e = subst (λ (xs : List Span). pointwise same_span ss xs ≡ true) e (all_own same_span (λ s. both (int_eq s.l s.l) (int_eq s.r s.r) (int_own s.l) (int_own s.r)) ss)

-- what a comparison of two lists in bands says of their pixels
pub same_told : (a b rs ss : List Rect) (r : Bool) → a ≡ rs → b ≡ ss → IsBanded a → IsBanded b → r ≡ pointwise same_edges a b → IsTrue r ↔ IsSameSet rs ss
same_told a b rs ss r e f v w g = (
  λ h p. ap (λ xs. region_has xs p) (sym e ∙ (rects_same a b (sym g ∙ h) ∙ f)),
  λ h. g ∙ rects_own a b (one_list a b v w (λ p. ap (λ xs. region_has xs p) e ∙ (h p ∙ ap (λ xs. region_has xs p) (sym f)))),
)

-- what `!=` says of two rows
pub same_from_ne : (ss ts : List Span) (r : Bool) → r ≡ not (pointwise same_span ss ts) → r ≡ false → ss ≡ ts
same_from_ne ss ts r e f = spans_same ss ts (twice (pointwise same_span ss ts) (sym e ∙ f))
  where
    twice : (b : Bool) → not b ≡ false → b ≡ true
    twice true h = refl
    twice false h = false_true (sym h)

pub other_from_ne : (ss ts : List Span) (r : Bool) → r ≡ not (pointwise same_span ss ts) → r ≡ true → ss ≡ ts → ⊥
other_from_ne ss ts r e f g = wrong (pointwise same_span ss ts) (sym e ∙ f) (spans_own ss ts g)
  where
    wrong : (b : Bool) → not b ≡ true → b ≡ true → ⊥
    wrong true h k = false_true h
    wrong false h k = false_true k
