-- Lists in bands: their kinds, one rectangle, and moves.
use Rattle.std.proofs.Common.{◌≡◌, ℕ, ◌+◌, ◌<◌, ◌≤◌, Bool, true, false, ◌||◌, ◌⊎◌, inl, inr, List, [], ◌∷◌, ◌++◌, take, get_or, length, refl, sym, ap, subst, ◌∙◌, arith}
use Rattle.std.specs.Prelude.{if◌then◌else◌, ℤ, pos, negsuc, ◌+ℤ◌, ◌-ℤ◌, ◌≤ℤ◌, ◌<ℤ◌, nat_lt, int_le, int_lt}
use Rattle.std.specs.List.{AllPairs}
use Rattle.std.proofs.lemmas.Int.{ints}
use Rattle.std.proofs.lemmas.Grind.{common_steps}
use Rattle.std.proofs.lemmas.List.{take_all}
use Rattle.std.proofs.lemmas.List.Elements.{All-nil, All-cons, All-head, length_all_zip, AllZip-get_or, all_zip_more}
use Rattle.win_num.specs.declared.shapes.Point.{Point}
use Rattle.win_num.specs.declared.shapes.Rect.{Rect}
use Rattle.win_num.specs.PixelSets.{Box, has_pixel}
use Rattle.win_num.specs.Rects.{box_in}
use Rattle.band_region.specs.Regions.{rect_has, region_has, depth, IsDisjoint, IsFilled, IsBefore, IsBanded, SameRows, IsEmpty, IsOneRectangle, moved_back, plane}
use Rattle.band_region.specs.Pieces.{IsShift, IsMoved}
use Rattle.band_region.proofs.Lists.{pairs-nil, pairs-one, pairs-head, pairs-tail}
use Rattle.band_region.proofs.Pixels.{IsAt, at_from_has, has_from_at, at_from_rect, rect_from_at, rect_has-is}
use Rattle.band_region.proofs.Sets.{either, or_first, corner, corner_has, not_empty}
use Rattle.band_region.proofs.Rows.{rect_upper}
use Rattle.band_region.proofs.Unique.{one_list, no_later, no_true, false_true}

depth-cons : (r : Rect) (rs : List Rect) (p : Point) → depth (r ∷ rs) p ≡ (if rect_has r p then 1 else 0) + depth rs p
depth-cons r rs p = grind (arith, common_steps)

-- a pixel is in the region exactly where a rectangle counts
region_has-depth : (rs : List Rect) (p : Point) → region_has rs p ≡ nat_lt 0 (depth rs p)
region_has-depth [] p = refl
region_has-depth (r ∷ rs) p = step (rect_has r p) (region_has rs p) (depth rs p) _ (depth-cons r rs p) (region_has-depth rs p)
  where
    step : (b s : Bool) (n m : ℕ) → m ≡ (if b then 1 else 0) + n → s ≡ nat_lt 0 n → (b || s) ≡ nat_lt 0 m
    step true s n m f e = grind arith
    step false s n m f e = grind arith

-- no two rectangles of a list in order share a pixel
pub apart_disjoint : (rs : List Rect) → AllPairs IsBefore rs → IsDisjoint rs
apart_disjoint [] a p = omega arith
apart_disjoint (r ∷ rs) a p = count (rect_has r p) (region_has rs p) (depth rs p) _ (depth-cons r rs p) (region_has-depth rs p) (apart_disjoint rs (pairs-tail IsBefore r rs a) p) (λ h. no_true (region_has rs p) (no_later r rs p h (pairs-head IsBefore r rs a)))
  where
    count : (b s : Bool) (n m : ℕ) → m ≡ (if b then 1 else 0) + n → s ≡ nat_lt 0 n → n ≤ 1 → (b ≡ true → s ≡ false) → m ≤ 1
    count true s n m e f h g = let k = g refl in grind arith
    count false s n m e f h g = grind arith

or_none : (a : Bool) → (a || false) ≡ a
or_none true = refl
or_none false = refl

pub none_banded : IsBanded []
none_banded = record { filled = All-nil IsFilled; apart = pairs-nil IsBefore; merged = All-nil (λ r. ¬ (SameRows (region_has []) (r.b -ℤ pos 1) r.b)) }

pub one_banded : (r : Rect) → IsFilled r → IsBanded (r ∷ [])
one_banded r f = record {
  filled = All-cons IsFilled r [] f (All-nil IsFilled);
  apart = pairs-one IsBefore r;
  merged = All-cons (λ q. ¬ (SameRows (region_has (r ∷ [])) (q.b -ℤ pos 1) q.b)) r [] differ (All-nil (λ q. ¬ (SameRows (region_has (r ∷ [])) (q.b -ℤ pos 1) q.b)));
}
  where
    differ : SameRows (region_has (r ∷ [])) (r.b -ℤ pos 1) r.b → ⊥
    differ h =
        let across = f.0 in
        let down = f.1 in
        let p : Point = record { x = r.l; y = r.b -ℤ pos 1 } in
        let q : Point = record { x = r.l; y = r.b } in
        let on : region_has (r ∷ []) p ≡ true = or_first (rect_has r p) false (rect_from_at r p (record { left = omega (arith, ints); right = omega (arith, ints); top = omega (arith, ints); bottom = omega (arith, ints) })) in
        let off : region_has (r ∷ []) q ≡ false = or_none (rect_has r q) ∙ rect_upper r q (omega (arith, ints)) in
        false_true (sym off ∙ (sym (h r.l) ∙ on))

pub one_has : (r : Rect) (p : Point) → region_has (r ∷ []) p ≡ has_pixel (box_in r) p
one_has r p = or_none (rect_has r p) ∙ rect_has-is r p

-- a rectangle without a pixel
pub no_pixel : (r : Rect) (p : Point) → (r.r ≤ℤ r.l) ⊎ (r.b ≤ℤ r.t) → false ≡ has_pixel (box_in r) p
no_pixel r p h = sym (no_true (has_pixel (box_in r) p) (λ k. wrong h (at_from_has (box_in r) p k)))
  where
    wrong : (r.r ≤ℤ r.l) ⊎ (r.b ≤ℤ r.t) → IsAt (box_in r) p → ⊥
    wrong (inl n) a =
        let l : r.l ≤ℤ p.x = a.left in
        let m : p.x <ℤ r.r = a.right in
        absurd (omega (arith, ints))
    wrong (inr n) a =
        let l : r.t ≤ℤ p.y = a.top in
        let m : p.y <ℤ r.b = a.bottom in
        absurd (omega (arith, ints))

-- pixels of a list lie in the plane
in_plane : (rs : List Rect) (p : Point) → region_has rs p ≡ true → IsAt plane p
in_plane [] p h = false_true h
in_plane (r ∷ rs) p h = either (rect_has r p) (region_has rs p) (IsAt plane p) h
    (λ k.
    let a = at_from_rect r p k in
    let al : r.l ≤ℤ p.x = a.left in
    let ar : p.x <ℤ r.r = a.right in
    let at : r.t ≤ℤ p.y = a.top in
    let ab : p.y <ℤ r.b = a.bottom in
    let nl = r.left_near in
    let nt = r.top_near in
    let nr = r.right_near in
    let nb = r.bottom_near in
    record { left = omega (arith, ints); right = omega (arith, ints); top = omega (arith, ints); bottom = omega (arith, ints) })
    (λ k. in_plane rs p k)

-- a list in bands with the pixels of one rectangle is one rectangle
long_as : (rs : List Rect) (whole : Rect) → IsBanded rs → IsFilled whole → ((p : Point) → region_has rs p ≡ has_pixel (box_in whole) p) → length rs ≡ 1
long_as rs whole b f h = ap (λ (xs : List Rect). length xs) (one_list rs (whole ∷ []) b (one_banded whole f) (λ u. h u ∙ sym (one_has whole u)))

one_long : (rs : List Rect) → IsBanded rs → IsOneRectangle rs → length rs ≡ 1
one_long rs b o =
    let around = o.around in
    let s = at_from_has around o.some o.has_some in
    let sl : around.left ≤ℤ o.some.x = s.left in
    let sr : o.some.x <ℤ around.right = s.right in
    let st : around.top ≤ℤ o.some.y = s.top in
    let sb : o.some.y <ℤ around.bottom = s.bottom in
    let p : Point = record { x = around.left; y = around.top } in
    let q : Point = record { x = around.right -ℤ pos 1; y = around.bottom -ℤ pos 1 } in
    let a = in_plane rs p (o.same p ∙ has_from_at around p (record { left = omega (arith, ints); right = omega (arith, ints); top = omega (arith, ints); bottom = omega (arith, ints) })) in
    let c = in_plane rs q (o.same q ∙ has_from_at around q (record { left = omega (arith, ints); right = omega (arith, ints); top = omega (arith, ints); bottom = omega (arith, ints) })) in
    let pl : negsuc 8388607 ≤ℤ around.left = a.left in
    let pt : negsuc 8388607 ≤ℤ around.top = a.top in
    let qr : (around.right -ℤ pos 1) <ℤ pos 8388608 = c.right in
    let qb : (around.bottom -ℤ pos 1) <ℤ pos 8388608 = c.bottom in
    let whole : Rect = record { l = around.left; t = around.top; r = around.right; b = around.bottom; across = omega (arith, ints); down = omega (arith, ints); left_near = pl; top_near = pt; right_near = omega (arith, ints); bottom_near = omega (arith, ints) } in
    long_as rs whole b (omega (arith, ints), omega (arith, ints)) o.same

one_of : (rs : List Rect) → length rs ≡ 1 → IsBanded rs → IsOneRectangle rs
unfolding corner
one_of [] h b = absurd (omega arith)
one_of (r ∷ []) h b = record {
  around = box_in r;
  some = corner r;
  has_some = sym (rect_has-is r (corner r)) ∙ corner_has r (All-head IsFilled r [] b.filled);
  same = one_has r;
}
one_of (r ∷ s ∷ rs) h b = absurd (omega arith)

none_long : (rs : List Rect) → IsBanded rs → IsEmpty rs → length rs ≡ 0
none_long [] b e = refl
none_long (r ∷ rs) b e = absurd (not_empty r rs b.filled e)

none_of : (rs : List Rect) → length rs ≡ 0 → IsEmpty rs
none_of [] h = λ p. refl
none_of (r ∷ rs) h = absurd (omega arith)

-- what the number of rectangles tells of the kind
pub record IsKind (rs : List Rect) (n : ℕ) : Type 0 where
  pub empty : IsEmpty rs → n ≡ 0
  pub one : IsOneRectangle rs → n ≡ 1
  pub none : n ≡ 0 → IsEmpty rs
  pub single : n ≡ 1 → IsOneRectangle rs

pub kind_at : (a rs : List Rect) (n : ℕ) → a ≡ rs → n ≡ length a → IsBanded a → IsKind rs n
kind_at a rs n e f b = subst (λ xs. IsKind xs n) e (record {
  empty = λ h. f ∙ none_long a b h;
  one = λ h. f ∙ one_long a b h;
  none = λ h. none_of a (sym f ∙ h);
  single = λ h. one_of a (sym f ∙ h) b;
})

-- moved rectangles
le-moved : (l x d : ℤ) → int_le (l +ℤ d) x ≡ int_le l (x -ℤ d)
le-moved l x d = grind (arith, ints)

lt-moved : (r x d : ℤ) → int_lt x (r +ℤ d) ≡ int_lt (x -ℤ d) r
lt-moved r x d = grind (arith, ints)

shift_has : (r m : Rect) (dx dy : ℤ) → IsShift dx dy r m → (p : Point) → rect_has m p ≡ rect_has r (moved_back dx dy p)
shift_has r m dx dy e p = rect_has-is m p ∙ (ap (λ (b : Box). has_pixel b p) e ∙ (rw (le-moved r.l p.x dx, lt-moved r.r p.x dx, le-moved r.t p.y dy, lt-moved r.b p.y dy) refl ∙ sym (rect_has-is r (moved_back dx dy p))))

pub moved_has : (rs ms : List Rect) (dx dy : ℤ) → IsMoved rs dx dy ms → (p : Point) → region_has ms p ≡ region_has rs (moved_back dx dy p)
moved_has [] [] dx dy h p = refl
moved_has [] (m ∷ ms) dx dy h p = absurd h
moved_has (r ∷ rs) [] dx dy h p = absurd h
moved_has (r ∷ rs) (m ∷ ms) dx dy h p = rw (shift_has r m dx dy h.0 p, moved_has rs ms dx dy h.1 p) refl

shift_edges : (r m : Rect) (dx dy : ℤ) → IsShift dx dy r m → (m.l ≡ r.l +ℤ dx) × (m.t ≡ r.t +ℤ dy) × (m.r ≡ r.r +ℤ dx) × (m.b ≡ r.b +ℤ dy)
shift_edges r m dx dy e = (ap (λ (b : Box). b.left) e, ap (λ (b : Box). b.top) e, ap (λ (b : Box). b.right) e, ap (λ (b : Box). b.bottom) e)

shift_filled : (r m : Rect) (dx dy : ℤ) → IsShift dx dy r m → IsFilled r → IsFilled m
shift_filled r m dx dy e f =
    let s = shift_edges r m dx dy e in
    let across = f.0 in
    let down = f.1 in
    (omega (arith, ints), omega (arith, ints))

shift_before : (r m s n : Rect) (dx dy : ℤ) → IsShift dx dy r m → IsShift dx dy s n → IsBefore r s → IsBefore m n
shift_before r m s n dx dy e f (inl h) =
    let a = shift_edges r m dx dy e in
    let b = shift_edges s n dx dy f in
    inl (omega (arith, ints))
shift_before r m s n dx dy e f (inr h) =
    let a = shift_edges r m dx dy e in
    let b = shift_edges s n dx dy f in
    let t = h.0 in
    let d = h.1 in
    let l = h.2 in
    inr (a.1 ∙ (ap (λ v. v +ℤ dy) t ∙ sym b.1), a.3 ∙ (ap (λ v. v +ℤ dy) d ∙ sym b.3), omega (arith, ints))

back : (x dx : ℤ) → (x +ℤ dx) -ℤ dx ≡ x
back x dx = omega (arith, ints)

point_same : (x x' y y' : ℤ) → x ≡ x' → y ≡ y' → (let p : Point = record { x = x; y = y } in p) ≡ record { x = x'; y = y' }
point_same x x' y y' e f = λ i. record { x = e i; y = f i }

pub moved_banded : (rs ms : List Rect) (dx dy : ℤ) → IsMoved rs dx dy ms → IsBanded rs → IsBanded ms
moved_banded rs ms dx dy h b = record {
  filled = λ k d i. shift_filled (get_or rs k d) (get_or ms k d) dx dy (at k d (long k i)) (b.filled k d (long k i));
  apart = λ j k d i m. shift_before (get_or rs j d) (get_or ms j d) (get_or rs k d) (get_or ms k d) dx dy (at j d (long j (omega arith))) (at k d (long k m)) (b.apart j k d i (long k m));
  merged = λ k d i s. b.merged k d (long k i) (λ x. rows (get_or rs k d) (get_or ms k d) (at k d (long k i)) s x);
}
  where
    long : (k : ℕ) → k < length ms → k < length rs
    long k i = let e = length_all_zip (IsShift dx dy) rs ms h in omega arith

    at : (k : ℕ) (d : Rect) → k < length rs → IsShift dx dy (get_or rs k d) (get_or ms k d)
    at k d i = AllZip-get_or (IsShift dx dy) rs ms k d d h i

    rows : (r m : Rect) → IsShift dx dy r m → SameRows (region_has ms) (m.b -ℤ pos 1) m.b → SameRows (region_has rs) (r.b -ℤ pos 1) r.b
    rows r m e s x =
        let edges = shift_edges r m dx dy e in
        let bottom : m.b ≡ r.b +ℤ dy = edges.3 in
        let upper = moved_has rs ms dx dy h (record { x = x +ℤ dx; y = m.b -ℤ pos 1 }) in
        let lower = moved_has rs ms dx dy h (record { x = x +ℤ dx; y = m.b }) in
        ap (region_has rs) (sym (point_same ((x +ℤ dx) -ℤ dx) x ((m.b -ℤ pos 1) -ℤ dy) (r.b -ℤ pos 1) (back x dx) (omega (arith, ints)))) ∙ (sym upper ∙ (s (x +ℤ dx) ∙ (lower ∙ ap (region_has rs) (point_same ((x +ℤ dx) -ℤ dx) x (m.b -ℤ dy) r.b (back x dx) (omega (arith, ints))))))

pub moved_more : (xs b c : List Rect) (x m : Rect) (i : ℕ) (dx dy : ℤ) → i < length xs → x ≡ get_or xs i x → IsMoved (take i xs) dx dy b → c ≡ b ++ m ∷ [] → IsShift dx dy x m → IsMoved (take (i + 1) xs) dx dy c
moved_more xs b c x m i dx dy h e g f s = subst (λ ys. IsMoved (take (i + 1) xs) dx dy ys) (sym f) (all_zip_more (IsShift dx dy) xs b i x m h e g s)

pub moved_done : (xs v : List Rect) (i : ℕ) (dx dy : ℤ) → length xs ≤ i → IsMoved (take i xs) dx dy v → IsMoved xs dx dy v
moved_done xs v i dx dy h g = subst (λ ys. IsMoved ys dx dy v) (take_all i xs h) g

pub moved_at : {a a' : List Rect} (v : List Rect) (dx dy : ℤ) → a' ≡ a → IsMoved a' dx dy v → IsMoved a dx dy v
moved_at v dx dy e m = subst (λ x. IsMoved x dx dy v) e m

-- the list of one rectangle, and the empty list
pub one_at : (r : Rect) (v vs : List Rect) → v ≡ vs ++ r ∷ [] → vs ≡ [] → r.l <ℤ r.r → r.t <ℤ r.b → IsBanded v × ((p : Point) → region_has v p ≡ has_pixel (box_in r) p)
one_at r v vs e f across down =
    let g : v ≡ r ∷ [] = e ∙ ap (λ (xs : List Rect). xs ++ r ∷ []) f in
    (subst IsBanded (sym g) (one_banded r (across, down)), λ p. ap (λ xs. region_has xs p) g ∙ one_has r p)

pub none_at : (r : Rect) (v : List Rect) → v ≡ [] → (r.r ≤ℤ r.l) ⊎ (r.b ≤ℤ r.t) → IsBanded v × ((p : Point) → region_has v p ≡ has_pixel (box_in r) p)
none_at r v g h = (subst IsBanded (sym g) none_banded, λ p. ap (λ xs. region_has xs p) g ∙ no_pixel r p h)
