-- Pixels of rectangles, and the rectangle around a list.
use Rattle.std.proofs.Common.{◌≡◌, ℕ, ◌+◌, ◌<◌, ◌≤◌, Bool, true, false, ◌&&◌, ◌||◌, List, [], ◌∷◌, take, get_or, length, refl, sym, subst, ◌∙◌, arith}
use Rattle.std.specs.Prelude.{ℤ, pos, negsuc, ◌+ℤ◌, ◌-ℤ◌, ◌≤ℤ◌, ◌<ℤ◌, int_lt, int_le, All, Option, None, Some, IfNone, Result, Ok, Err, IsOk, IsErr, IsTrue, ◌↔◌}
use Rattle.std.proofs.lemmas.Int.{ints}
use Rattle.std.proofs.lemmas.List.{take_all}
use Rattle.std.proofs.lemmas.List.Folds.{list_any_at, list_any_more}
use Rattle.std.proofs.lemmas.List.Elements.{All-nil, All-cons, All-head, All-tail, All-more, All-weaker, All-get_or}
use Rattle.win_num.specs.declared.shapes.Point.{Point}
use Rattle.win_num.specs.declared.shapes.Rect.{Rect}
use Rattle.win_num.specs.PixelSets.{Box, has_pixel}
use Rattle.win_num.specs.Rects.{box_in}
use Rattle.band_region.specs.Regions.{rect_has, region_has, IsFilled, moved_back, plane, StaysInPlane}
use Rattle.band_region.specs.Pieces.{IsFoundAt, IsWithin, IsJoined, Bounds}
use Rattle.band_region.proofs.Geometry.{le_yes, lt_yes, ≤ℤ-trans}

and_left : (a b : Bool) → (a && b) ≡ true → a ≡ true
and_left true b h = refl
and_left false b h = h

and_right : (a b : Bool) → (a && b) ≡ true → b ≡ true
and_right true b h = h
and_right false b h = absurd (grind arith)

le_of : (a b : ℤ) → int_le a b ≡ true → a ≤ℤ b
le_of a b h = grind (arith, ints)

lt_of : (a b : ℤ) → int_lt a b ≡ true → a <ℤ b
lt_of a b h = grind (arith, ints)

-- where a pixel of a rectangle lies
pub record IsAt (b : Box) (p : Point) : Type 0 where
  pub left : b.left ≤ℤ p.x
  pub right : p.x <ℤ b.right
  pub top : b.top ≤ℤ p.y
  pub bottom : p.y <ℤ b.bottom

pub at_from_has : (b : Box) (p : Point) → has_pixel b p ≡ true → IsAt b p
at_from_has b p h =
    let top = and_left _ _ h in
    let across = and_left _ _ top in
    record {
      left = le_of b.left p.x (and_left _ _ across);
      right = lt_of p.x b.right (and_right _ _ across);
      top = le_of b.top p.y (and_right _ _ top);
      bottom = lt_of p.y b.bottom (and_right _ _ h);
    }

pub has_from_at : (b : Box) (p : Point) → IsAt b p → has_pixel b p ≡ true
has_from_at b p h = rw (le_yes b.left p.x h.left, lt_yes p.x b.right h.right, le_yes b.top p.y h.top, lt_yes p.y b.bottom h.bottom) refl

pub at_from_rect : (r : Rect) (p : Point) → rect_has r p ≡ true → IsAt (box_in r) p
unfolding rect_has
at_from_rect r p h = at_from_has (box_in r) p h

pub rect_from_at : (r : Rect) (p : Point) → IsAt (box_in r) p → rect_has r p ≡ true
unfolding rect_has
rect_from_at r p h = has_from_at (box_in r) p h

pub rect_has-is : (r : Rect) (p : Point) → rect_has r p ≡ has_pixel (box_in r) p
unfolding rect_has
rect_has-is r p = refl

pub found_at : (rs : List Rect) (i : ℕ) (r : Rect) (p : Point) → i < length rs → r ≡ get_or rs i r → has_pixel (box_in r) p ≡ true → IsFoundAt rs p r
unfolding rect_has
found_at rs i r p h e t = record {
  at = t;
  covered = λ q k. list_any_at (λ x. rect_has x q) rs i r h (subst (λ x. rect_has x q ≡ true) e k);
}

either : (a b : Bool) (P : Type 0) → (a || b) ≡ true → (a ≡ true → P) → (b ≡ true → P) → P
either true b P h f g = f refl
either false b P h f g = g h

pub unseen_more : (rs : List Rect) (i : ℕ) (r : Rect) (p : Point) (b : Bool) → i < length rs → r ≡ get_or rs i r → region_has (take i rs) p ≡ false → ((b ≡ true → has_pixel (box_in r) p ≡ true) × (has_pixel (box_in r) p ≡ true → b ≡ true)) → b ≡ false → region_has (take (i + 1) rs) p ≡ false
unfolding rect_has
unseen_more rs i r p b h e g k n = list_any_more (λ x. rect_has x p) rs i r h ∙ both _ _ g (subst (λ x. rect_has x p ≡ false) e (missed (has_pixel (box_in r) p) b k.1 n))
  where
    both : (x y : Bool) → x ≡ false → y ≡ false → (x || y) ≡ false
    both true y h k = h
    both false y h k = k

    missed : (x y : Bool) → (x ≡ true → y ≡ true) → y ≡ false → x ≡ false
    missed true y f n = sym (f refl) ∙ n
    missed false y f n = refl

pub found_right : (rs : List Rect) (q : Point) (r : Rect) → IsFoundAt rs q r → q.x <ℤ r.r
found_right rs q r f = let a = at_from_rect r q f.at in a.right

within-trans : (r : Rect) (c d : Rect) → IsWithin r (box_in c) → IsWithin c (box_in d) → IsWithin r (box_in d)
within-trans r c d h k =
    let hl : c.l ≤ℤ r.l = h.left in
    let ht : c.t ≤ℤ r.t = h.top in
    let hr : r.r ≤ℤ c.r = h.right in
    let hb : r.b ≤ℤ c.b = h.bottom in
    let kl : d.l ≤ℤ c.l = k.left in
    let kt : d.t ≤ℤ c.t = k.top in
    let kr : c.r ≤ℤ d.r = k.right in
    let kb : c.b ≤ℤ d.b = k.bottom in
    record {
      left = ≤ℤ-trans _ _ _ kl hl;
      top = ≤ℤ-trans _ _ _ kt ht;
      right = ≤ℤ-trans _ _ _ hr kr;
      bottom = ≤ℤ-trans _ _ _ hb kb;
    }

within-refl : (r : Rect) → IsWithin r (box_in r)
within-refl r = record { left = omega (arith, ints); top = omega (arith, ints); right = omega (arith, ints); bottom = omega (arith, ints) }

-- the rectangle lies around those seen so far, and within every one around all
pub record Spans (first : Rect) (seen all : List Rect) (c : Rect) : Type 0 where
  pub outer : IsWithin first (box_in c)
  pub around : All (λ r. IsWithin r (box_in c)) seen
  pub least : (b : Box) → All (λ r. IsWithin r b) (first ∷ all) → IsWithin c b

pub spans-start : (first : Rect) (all : List Rect) → Spans first [] all first
spans-start first all = record {
  outer = within-refl first;
  around = All-nil (λ r. IsWithin r (box_in first));
  least = λ b h. All-head (λ r. IsWithin r b) first all h;
}

pub spans-more : (first : Rect) (all : List Rect) (i : ℕ) (c x d : Rect) → i < length all → x ≡ get_or all i x → Spans first (take i all) all c → IsJoined c x d → Spans first (take (i + 1) all) all d
spans-more first all i c x d h e s j = record {
  outer = within-trans first c d s.outer j.first;
  around = All-more (λ r. IsWithin r (box_in d)) all i x h (All-weaker (λ r. IsWithin r (box_in c)) (λ r. IsWithin r (box_in d)) (λ r w. within-trans r c d w j.first) _ s.around) (subst (λ y. IsWithin y (box_in d)) e j.second);
  least = λ b k. j.least b (s.least b k) (subst (λ y. IsWithin y b) (sym e) (All-get_or (λ r. IsWithin r b) all i x h (All-tail (λ r. IsWithin r b) first all k)));
}

pub spans-end : (first : Rect) (all : List Rect) (i : ℕ) (c : Rect) → length all ≤ i → Spans first (take i all) all c → Bounds (first ∷ all) c
spans-end first all i c h s = record {
  around = All-cons (λ r. IsWithin r (box_in c)) first all s.outer (subst (λ ys. All (λ r. IsWithin r (box_in c)) ys) (take_all i all h) s.around);
  least = s.least;
}

pub if_none : {A : Type 0} (P : Type 0) (o : Option A) → P → IfNone o P
if_none P None h = h
if_none P (Some x) h = tt

-- a rectangle stays in the plane when it is moved
pub record StaysNear (r : Rect) (dx dy : ℤ) : Type 0 where
  pub left : negsuc 8388607 ≤ℤ (r.l +ℤ dx)
  pub top : negsuc 8388607 ≤ℤ (r.t +ℤ dy)
  pub right : (r.r +ℤ dx) ≤ℤ pos 8388608
  pub bottom : (r.b +ℤ dy) ≤ℤ pos 8388608

pub stays_at : (rs : List Rect) (dx dy : ℤ) (i : ℕ) (r : Rect) → i < length rs → r ≡ get_or rs i r → All IsFilled rs → StaysInPlane rs dx dy → StaysNear r dx dy
stays_at rs dx dy i r h e f s =
    let fr : IsFilled r = subst IsFilled (sym e) (All-get_or IsFilled rs i r h f) in
    let across = fr.0 in
    let down = fr.1 in
    let first : Point = record { x = r.l +ℤ dx; y = r.t +ℤ dy } in
    let last : Point = record { x = (r.r -ℤ pos 1) +ℤ dx; y = (r.b -ℤ pos 1) +ℤ dy } in
    let in-first : rect_has r (moved_back dx dy first) ≡ true = rect_from_at r (moved_back dx dy first) (record { left = omega (arith, ints); right = omega (arith, ints); top = omega (arith, ints); bottom = omega (arith, ints) }) in
    let in-last : rect_has r (moved_back dx dy last) ≡ true = rect_from_at r (moved_back dx dy last) (record { left = omega (arith, ints); right = omega (arith, ints); top = omega (arith, ints); bottom = omega (arith, ints) }) in
    let a = at_from_has plane first (s first (list_any_at (λ x. rect_has x (moved_back dx dy first)) rs i r h (subst (λ x. rect_has x (moved_back dx dy first) ≡ true) e in-first))) in
    let b = at_from_has plane last (s last (list_any_at (λ x. rect_has x (moved_back dx dy last)) rs i r h (subst (λ x. rect_has x (moved_back dx dy last) ≡ true) e in-last))) in
    let al : negsuc 8388607 ≤ℤ (r.l +ℤ dx) = a.left in
    let at : negsuc 8388607 ≤ℤ (r.t +ℤ dy) = a.top in
    let br : ((r.r -ℤ pos 1) +ℤ dx) <ℤ pos 8388608 = b.right in
    let bb : ((r.b -ℤ pos 1) +ℤ dy) <ℤ pos 8388608 = b.bottom in
    record { left = al; top = at; right = omega (arith, ints); bottom = omega (arith, ints) }

pub ok_from : {A E : Type 0} (r : Result A E) (b : Bool) → (IsErr r ↔ IsTrue b) → b ≡ false → IsOk r
ok_from (Ok x) b h e = grind arith
ok_from (Err x) b h e = grind (arith, h)
