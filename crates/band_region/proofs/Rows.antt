-- The rectangles of one row, and those below it.
use Rattle.std.proofs.Common.{◌≡◌, ℕ, ◌+◌, ◌<◌, ◌≤◌, Bool, true, false, ◌&&◌, ◌||◌, ◌⊎◌, inl, inr, List, [], ◌∷◌, ◌++◌, take, drop, get_or, length, refl, sym, ap, subst, ◌∙◌, arith}
use Rattle.std.specs.Prelude.{ℤ, pos, negsuc, ◌≤ℤ◌, ◌<ℤ◌, int_le, int_lt, All, Contains}
use Rattle.std.specs.List.{AllPairs}
use Rattle.std.proofs.lemmas.Int.{ints}
use Rattle.std.proofs.lemmas.List.{take_all, drop_all, drop_more}
use Rattle.std.proofs.lemmas.List.Folds.{list_any_none, list_any_more, list_any-append}
use Rattle.std.proofs.lemmas.List.Elements.{All-nil, All-weaker, All-more, All-take, All-push, All-head, All-tail, Contains-get_or}
use Rattle.win_num.specs.declared.shapes.Point.{Point}
use Rattle.win_num.specs.declared.shapes.Rect.{Rect}
use Rattle.win_num.specs.PixelSets.{Box, box}
use Rattle.win_num.specs.Rects.{box_in}
use Rattle.band_region.specs.declared.columns.Span.{Span}
use Rattle.band_region.specs.declared.bands.Rows.{Rows}
use Rattle.band_region.specs.Regions.{rect_has, region_has, IsFilled, IsBefore}
use Rattle.band_region.specs.Columns.{column_in, spans_have, IsRow}
use Rattle.band_region.specs.Bands.{IsRowsAt, IsBelow, IsBandAdded}
use Rattle.band_region.proofs.Geometry.{le_yes, lt_yes, le_no, lt_no, ≤ℤ-trans}
use Rattle.band_region.proofs.Lists.{pairs-nil, pairs-take, pairs-drop, pairs-push, pairs-rest, pairs-earlier, all-rest, any_agree, any_front, any_back}

and_false : (a : Bool) → (a && false) ≡ false
and_false true = refl
and_false false = refl

-- a rectangle has the pixels of its rows and columns
pub rect_parts : (r : Rect) (p : Point) → rect_has r p ≡ (column_in r.t r.b p.y && column_in r.l r.r p.x)
unfolding rect_has column_in
rect_parts r p = mix (int_le r.l p.x) (int_lt p.x r.r) (int_le r.t p.y) (int_lt p.y r.b)
  where
    mix : (a b c d : Bool) → (a && b && c && d) ≡ ((c && d) && (a && b))
    mix a b c d = grind arith

pub rect_row : (r : Rect) (p : Point) → r.t ≤ℤ p.y → p.y <ℤ r.b → rect_has r p ≡ column_in r.l r.r p.x
unfolding column_in
rect_row r p h k = rect_parts r p ∙ rw (le_yes r.t p.y h, lt_yes p.y r.b k) refl

pub rect_lower : (r : Rect) (p : Point) → p.y <ℤ r.t → rect_has r p ≡ false
unfolding column_in
rect_lower r p h = rect_parts r p ∙ rw (le_no r.t p.y h) refl

pub rect_upper : (r : Rect) (p : Point) → r.b ≤ℤ p.y → rect_has r p ≡ false
unfolding column_in
rect_upper r p h = rect_parts r p ∙ rw (lt_no p.y r.b h, and_false (int_le r.t p.y)) refl

pub none_above : (rs : List Rect) (p : Point) → All (λ r. r.b ≤ℤ p.y) rs → region_has rs p ≡ false
none_above rs p h = list_any_none (λ r. rect_has r p) rs (All-weaker (λ r. r.b ≤ℤ p.y) (λ r. rect_has r p ≡ false) (λ r k. rect_upper r p k) rs h)

pub none_lower : (rs : List Rect) (p : Point) → All (λ r. p.y <ℤ r.t) rs → region_has rs p ≡ false
none_lower rs p h = list_any_none (λ r. rect_has r p) rs (All-weaker (λ r. p.y <ℤ r.t) (λ r. rect_has r p ≡ false) (λ r k. rect_lower r p k) rs h)

-- no pixel lies outside of the plane
pub no_pixel_far : (rs : List Rect) (p : Point) → pos 8388608 ≤ℤ p.y → region_has rs p ≡ false
no_pixel_far rs p h = none_above rs p (λ k d i. ≤ℤ-trans _ _ _ ((get_or rs k d).bottom_near) h)

pub no_pixel_before : (rs : List Rect) (p : Point) → p.y <ℤ negsuc 8388607 → region_has rs p ≡ false
no_pixel_before rs p h = none_lower rs p (λ k d i. let n = (get_or rs k d).top_near in omega (arith, ints))

-- rectangles that both have pixels in a row are of one band
pub same_band : (r s : Rect) (y : ℤ) → IsBefore r s → y <ℤ r.b → s.t ≤ℤ y → (r.t ≡ s.t) × (r.b ≡ s.b) × (r.r <ℤ s.l)
same_band r s y (inl h) k m = absurd (omega (arith, ints))
same_band r s y (inr h) k m = h

-- the tops and the bottoms of a list go down
pub tops_down : (r s : Rect) → IsBefore r s → r.t ≤ℤ s.t
tops_down r s (inl h) = let d = r.down in omega (arith, ints)
tops_down r s (inr h) = let e = h.0 in omega (arith, ints)

pub bottoms_down : (r s : Rect) → IsBefore r s → r.b ≤ℤ s.b
bottoms_down r s (inl h) = let d = s.down in omega (arith, ints)
bottoms_down r s (inr h) = let e = h.1 in omega (arith, ints)

-- the rectangles before a place have pixels in the row, and all end at one row
pub record RowsSeen (rs : List Rect) (y end : ℤ) (i : ℕ) : Type 0 where
  pub tops : All (λ r. r.t ≤ℤ y) (take i rs)
  pub bottoms : All (λ r. r.b ≡ end) (take i rs)
  pub on : y <ℤ end
  pub near : end ≤ℤ pos 8388608

pub seen-start : (rs : List Rect) (y end : ℤ) → y <ℤ pos 8388608 → end ≡ pos 8388608 → RowsSeen rs y end 0
seen-start rs y end h e = record {
  tops = All-nil (λ r. r.t ≤ℤ y);
  bottoms = All-nil (λ r. r.b ≡ end);
  on = omega (arith, ints);
  near = omega (arith, ints);
}

pub seen-more : (rs : List Rect) (y end end' : ℤ) (i : ℕ) (r : Rect) → i < length rs → r ≡ get_or rs i r → AllPairs IsBefore rs → All (λ q. y <ℤ q.b) rs → r.t ≤ℤ y → end' ≡ r.b → RowsSeen rs y end i → RowsSeen rs y end' (i + 1)
seen-more rs y end end' i r h g p a k e w =
    let low : y <ℤ r.b = subst (λ q. y <ℤ q.b) (sym g) (a i r h) in
    let near = r.bottom_near in
    record {
      tops = All-more (λ q. q.t ≤ℤ y) rs i r h w.tops (subst (λ q. q.t ≤ℤ y) g k);
      bottoms = All-more (λ q. q.b ≡ end') rs i r h
          (λ j d m. let b = same_band (get_or (take i rs) j d) (get_or rs i r) y (pairs-earlier IsBefore rs i r h p j d m) (All-take (λ q. y <ℤ q.b) i rs a j d m) (subst (λ q. q.t ≤ℤ y) g k) in b.1 ∙ (ap (λ (q : Rect). q.b) (sym g) ∙ sym e))
          (ap (λ (q : Rect). q.b) (sym g) ∙ sym e);
      on = omega (arith, ints);
      near = omega (arith, ints);
    }

-- the rectangles seen make the row
rows_of : (rs : List Rect) (y end : ℤ) (i : ℕ) (s : Rows) → AllPairs IsBefore rs → All (λ q. y <ℤ q.b) rs → RowsSeen rs y end i → i ≤ length rs → s.count ≡ i → y <ℤ s.end → s.end ≤ℤ end → ((p : Point) → p.y <ℤ s.end → region_has (drop i rs) p ≡ false) → IsRowsAt rs y s
rows_of rs y end i s p a w h e on le rest =
    let near = w.near in
    subst (λ n. IsRowsAt rs y (record { count = n; end = s.end })) (sym e) (record {
      within = h;
      on = on;
      near = omega (arith, ints);
      apart = λ m n d g k. let b = same_band (get_or (take i rs) m d) (get_or (take i rs) n d) y (pairs-take IsBefore i rs p m n d g k) (All-take (λ q. y <ℤ q.b) i rs a m d (omega arith)) (w.tops n d k) in b.2;
      same = λ q m n. any_front (λ r. rect_has r q) i rs (rest q n) ∙ any_agree (λ r. rect_has r q) (λ r. column_in r.l r.r q.x) (take i rs)
          (λ j d k. let t = w.tops j d k in let b = w.bottoms j d k in rect_row (get_or (take i rs) j d) q (omega (arith, ints)) (omega (arith, ints)));
    })

pub rows_here : (rs : List Rect) (y end : ℤ) (i : ℕ) (r : Rect) (s : Rows) → i < length rs → r ≡ get_or rs i r → AllPairs IsBefore rs → All (λ q. y <ℤ q.b) rs → RowsSeen rs y end i → y <ℤ r.t → s.count ≡ i → y <ℤ s.end → s.end ≤ℤ end → s.end ≤ℤ r.t → IsRowsAt rs y s
rows_here rs y end i r s h g p a w k e on le top =
    rows_of rs y end i s p a w (omega arith) e on le (λ q n. none_lower (drop i rs) q
    (all-rest (λ u. q.y <ℤ u.t) rs i r h (subst (λ u. q.y <ℤ u.t) g (omega (arith, ints)))
    (All-weaker (IsBefore (get_or rs i r)) (λ u. q.y <ℤ u.t) (λ u b. let d : (get_or rs i r).t ≤ℤ u.t = tops_down (get_or rs i r) u b in let f : r.t ≡ (get_or rs i r).t = ap (λ (v : Rect). v.t) g in omega (arith, ints)) (drop (i + 1) rs) (pairs-rest IsBefore rs i r h p))))

pub rows_all : (rs : List Rect) (y end : ℤ) (i : ℕ) (s : Rows) → length rs ≤ i → i ≤ length rs → AllPairs IsBefore rs → All (λ q. y <ℤ q.b) rs → RowsSeen rs y end i → s.count ≡ length rs → s.end ≡ end → IsRowsAt rs y s
rows_all rs y end i s h k p a w e f =
    let on = w.on in
    rows_of rs y end i s p a w k (omega arith) (omega (arith, ints)) (omega (arith, ints)) (λ q n. ap (λ ys. region_has ys q) (drop_all i rs h))

-- what lies from a row on
pub below_here : (rs rest : List Rect) (y y' : ℤ) (i : ℕ) (r : Rect) → rest ≡ drop i rs → y' ≡ y → i < length rs → r ≡ get_or rs i r → AllPairs IsBefore rs → All (λ q. q.b ≤ℤ y') (take i rs) → y <ℤ r.b → IsBelow rs y rest
below_here rs rest y y' i r e f h g p a k = subst (λ ys. IsBelow rs y ys) (sym e) (record {
  apart = pairs-drop IsBefore i rs p;
  ahead = all-rest (λ q. y <ℤ q.b) rs i r h (subst (λ q. y <ℤ q.b) g k)
      (All-weaker (IsBefore (get_or rs i r)) (λ q. y <ℤ q.b) (λ q b. let d : (get_or rs i r).b ≤ℤ q.b = bottoms_down (get_or rs i r) q b in let c : r.b ≡ (get_or rs i r).b = ap (λ (v : Rect). v.b) g in omega (arith, ints)) (drop (i + 1) rs) (pairs-rest IsBefore rs i r h p));
  same = λ q m. sym (any_back (λ u. rect_has u q) i rs (none_above (take i rs) q (All-weaker (λ u. u.b ≤ℤ y') (λ u. u.b ≤ℤ q.y) (λ u n. omega (arith, ints)) (take i rs) a)));
})

pub below_none : (rs : List Rect) (y y' : ℤ) (i : ℕ) → y' ≡ y → length rs ≤ i → All (λ q. q.b ≤ℤ y') (take i rs) → IsBelow rs y []
below_none rs y y' i f h a = record {
  apart = pairs-nil IsBefore;
  ahead = All-nil (λ q. y <ℤ q.b);
  same = λ q m. sym (none_above rs q (All-weaker (λ u. u.b ≤ℤ y') (λ u. u.b ≤ℤ q.y) (λ u n. omega (arith, ints)) rs (subst (λ ys. All (λ u. u.b ≤ℤ y') ys) (take_all i rs h) a)));
}

pub above_more : (rs : List Rect) (y y' : ℤ) (i : ℕ) (r : Rect) → y' ≡ y → i < length rs → r ≡ get_or rs i r → All (λ q. q.b ≤ℤ y') (take i rs) → r.b ≤ℤ y → All (λ q. q.b ≤ℤ y') (take (i + 1) rs)
above_more rs y y' i r f h g a k = All-more (λ q. q.b ≤ℤ y') rs i r h a (subst (λ q. q.b ≤ℤ y') g (omega (arith, ints)))

-- a list that gains the rectangles of the first spans of a row
pub record BandGrown (old : List Rect) (row : List Span) (top bottom : ℤ) (i : ℕ) (new : List Rect) : Type 0 where
  pub same : (p : Point) → region_has new p ≡ (region_has old p || (column_in top bottom p.y && spans_have (take i row) p.x))
  pub filled : All IsFilled old → All IsFilled new
  pub apart : AllPairs IsBefore old → AllPairs IsBefore new
  pub bottoms : All (λ r. Contains old r ⊎ (r.b ≡ bottom)) new
  pub left : All (λ r. (r.b ≤ℤ top) ⊎ ((r.t ≡ top) × (r.b ≡ bottom) × All (λ s. r.r <ℤ s.l) (drop i row))) new

abbrev IsLeft : List Span → ℤ → ℤ → ℕ → Rect → Type 0
IsLeft row top bottom i q = (q.b ≤ℤ top) ⊎ ((q.t ≡ top) × (q.b ≡ bottom) × All (λ s. q.r <ℤ s.l) (drop i row))

pub grown-start : (old : List Rect) (row : List Span) (top bottom : ℤ) → All (λ r. r.b ≤ℤ top) old → BandGrown old row top bottom 0 old
grown-start old row top bottom a = record {
  same = λ p. sym (none (region_has old p) (column_in top bottom p.y));
  filled = λ h. h;
  apart = λ h. h;
  bottoms = λ k d h. inl (Contains-get_or old k d h);
  left = λ k d h. inl (a k d h);
}
  where
    none : (o c : Bool) → (o || (c && false)) ≡ o
    none true c = refl
    none false c = and_false c

left-more : (row : List Span) (top bottom : ℤ) (i : ℕ) (d : Span) (q : Rect) → i < length row → IsLeft row top bottom i q → IsLeft row top bottom (i + 1) q
left-more row top bottom i d q h (inl k) = inl k
left-more row top bottom i d q h (inr k) = inr (k.0, k.1, All-tail (λ s. q.r <ℤ s.l) (get_or row i d) (drop (i + 1) row) (subst (λ ss. All (λ s. q.r <ℤ s.l) ss) (drop_more row i d h) k.2))

before-new : (row : List Span) (top bottom : ℤ) (i : ℕ) (d : Span) (q r : Rect) → i < length row → r.t ≡ top → r.b ≡ bottom → r.l ≡ (get_or row i d).l → IsLeft row top bottom i q → IsBefore q r
before-new row top bottom i d q r h et eb el (inl k) = inl (omega (arith, ints))
before-new row top bottom i d q r h et eb el (inr k) =
    let first : q.r <ℤ (get_or row i d).l = All-head (λ s. q.r <ℤ s.l) (get_or row i d) (drop (i + 1) row) (subst (λ ss. All (λ s. q.r <ℤ s.l) ss) (drop_more row i d h) k.2) in
    inr (k.0 ∙ sym et, k.1 ∙ sym eb, omega (arith, ints))

pub grown-more : (old new new' : List Rect) (row : List Span) (top bottom : ℤ) (i : ℕ) (d : Span) (r : Rect) → i < length row → IsRow row → top <ℤ bottom → box_in r ≡ box (get_or row i d).l top (get_or row i d).r bottom → new' ≡ new ++ r ∷ [] → BandGrown old row top bottom i new → BandGrown old row top bottom (i + 1) new'
grown-more old new new' row top bottom i d r h w k e f g =
    let s = get_or row i d in
    let el : r.l ≡ s.l = ap (λ (b : Box). b.left) e in
    let et : r.t ≡ top = ap (λ (b : Box). b.top) e in
    let er : r.r ≡ s.r = ap (λ (b : Box). b.right) e in
    let eb : r.b ≡ bottom = ap (λ (b : Box). b.bottom) e in
    let good = w.good i d h in
    let across : s.l <ℤ s.r = good.across in
    subst (λ rs. BandGrown old row top bottom (i + 1) rs) (sym f) (record {
      same = λ p. list_any-append (λ q. rect_has q p) new (r ∷ []) ∙ (rw (g.same p, rect_parts r p, el, et, er, eb, list_any_more (λ t. column_in t.l t.r p.x) row i d h) (tests (region_has old p) (column_in top bottom p.y) (spans_have (take i row) p.x) (column_in s.l s.r p.x)));
      filled = λ a. All-push IsFilled new r (g.filled a) (omega (arith, ints), omega (arith, ints));
      apart = λ a. pairs-push IsBefore new r (g.apart a) (λ j c m. before-new row top bottom i d (get_or new j c) r h et eb el (g.left j c m));
      bottoms = All-push (λ q. Contains old q ⊎ (q.b ≡ bottom)) new r g.bottoms (inr eb);
      left = All-push (IsLeft row top bottom (i + 1)) new r (λ j c m. left-more row top bottom i d (get_or new j c) h (g.left j c m))
          (inr (et, eb, All-weaker (λ t. s.r <ℤ t.l) (λ t. r.r <ℤ t.l) (λ t m. omega (arith, ints)) (drop (i + 1) row) (pairs-rest (λ t u. t.r <ℤ u.l) row i d h w.apart)));
    })
  where
    tests : (o c a b : Bool) → ((o || (c && a)) || ((c && b) || false)) ≡ (o || (c && (a || b)))
    tests o c a b = grind arith

pub grown-end : (old new : List Rect) (row : List Span) (top bottom top' bottom' : ℤ) (i : ℕ) → length row ≤ i → top' ≡ top → bottom' ≡ bottom → BandGrown old row top' bottom' i new → IsBandAdded old row top bottom new
grown-end old new row top bottom top' bottom' i h e f g = record {
  same = λ p. rw (← take_all i row h, ← e, ← f) (g.same p);
  filled = g.filled;
  apart = g.apart;
  bottoms = subst (λ z. All (λ r. Contains old r ⊎ (r.b ≡ z)) new) f g.bottoms;
}

pub ahead_at : (rs : List Rect) (y y' : ℤ) → y' ≡ y → All (λ q. y <ℤ q.b) rs → All (λ q. y' <ℤ q.b) rs
ahead_at rs y y' e a = subst (λ z. All (λ q. z <ℤ q.b) rs) (sym e) a

pub seen_at : (rs : List Rect) (y y' end : ℤ) (i : ℕ) → y' ≡ y → RowsSeen rs y' end i → RowsSeen rs y end i
seen_at rs y y' end i e w = subst (λ z. RowsSeen rs z end i) e w

pub above_at : (rs : List Rect) (y y' : ℤ) → y' ≡ y → All (λ q. q.b ≤ℤ y) rs → All (λ q. q.b ≤ℤ y') rs
above_at rs y y' e a = subst (λ z. All (λ q. q.b ≤ℤ z) rs) (sym e) a
