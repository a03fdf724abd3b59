-- The part of a window that is on the screen, edge by edge.
use Rattle.std.proofs.Common.{◌≡◌, ℕ, ◌<◌, Bool, true, false, cond, refl, ap, ◌∙◌, arith}
use Rattle.std.specs.Prelude.{◌&&◌, ℤ, pos, negsuc, ◌+ℤ◌, ◌-ℤ◌, ◌≤ℤ◌, ◌<ℤ◌, int_le, int_lt}
use Rattle.std.proofs.lemmas.Bool.{false≢true}
use Rattle.std.proofs.lemmas.Int.{ints}
use Rattle.win_num.specs.declared.shapes.Point.{Point}
use Rattle.win_num.specs.declared.shapes.Rect.{Rect}
use Rattle.win_num.specs.PixelSets.{box, has_pixel, least, most}
use Rattle.win_num.specs.Rects.{box_in}
use Rattle.band_region.specs.Regions.{rect_has}
use Rattle.screen_owners.specs.declared.screen.Corner.{Corner}
use Rattle.screen_owners.specs.Owners.{is_on_screen}
use Rattle.screen_owners.specs.Shares.{seen_from}

-- the edge, brought onto a screen of so many pixels
abbrev pub clamped : ℤ → ℕ → ℤ
clamped z n = most (pos 0) (least z (pos n))

-- what is known of it
pub record IsClamped (z : ℤ) (n : ℕ) (e : ℤ) : Type 0 where
  pub low : pos 0 ≤ℤ e
  pub high : e ≤ℤ pos n
  pub le : (x : ℤ) → pos 0 ≤ℤ x → x <ℤ pos n → int_le e x ≡ int_le z x
  pub lt : (x : ℤ) → pos 0 ≤ℤ x → x <ℤ pos n → int_lt x e ≡ int_lt x z
  pub same : pos 0 ≤ℤ z → z ≤ℤ pos n → e ≡ z
  pub first : z ≤ℤ pos 0 → e ≡ pos 0
  pub last : pos n ≤ℤ z → e ≡ pos n

below_le : (z x : ℤ) → z <ℤ pos 0 → pos 0 ≤ℤ x → int_le (pos 0) x ≡ int_le z x
below_le z x h k = grind (arith, ints)

below_lt : (z x : ℤ) → z <ℤ pos 0 → pos 0 ≤ℤ x → int_lt x (pos 0) ≡ int_lt x z
below_lt z x h k = grind (arith, ints)

above_le : (z x : ℤ) (n : ℕ) → pos n <ℤ z → x <ℤ pos n → int_le (pos n) x ≡ int_le z x
above_le z x n h k = grind (arith, ints)

above_lt : (z x : ℤ) (n : ℕ) → pos n <ℤ z → x <ℤ pos n → int_lt x (pos n) ≡ int_lt x z
above_lt z x n h k = grind (arith, ints)

le_true : (a b : ℤ) → int_le a b ≡ true → a ≤ℤ b
le_true a b h = grind (arith, ints)

le_false : (a b : ℤ) → int_le a b ≡ false → b <ℤ a
le_false a b h = grind (arith, ints)

pub lt_true : (a b : ℤ) → int_lt a b ≡ true → a <ℤ b
lt_true a b h = grind (arith, ints)

pub clamped_is : (z : ℤ) (n : ℕ) → IsClamped z n (clamped z n)
clamped_is z n = pick (int_le z (pos n)) refl
  where
    two : (y : ℤ) (c : Bool) → int_le (pos 0) y ≡ c → y ≤ℤ pos n → y ≡ z → IsClamped z n (cond c y (pos 0))
    two y true k h e = record {
      low = le_true (pos 0) y k;
      high = h;
      le = λ x a b. ap (λ u. int_le u x) e;
      lt = λ x a b. ap (λ u. int_lt x u) e;
      same = λ a b. e;
      first = λ a. omega (arith, ints, a, e, le_true (pos 0) y k);
      last = λ a. omega (arith, ints, a, e, h);
    }
    two y false k h e = let less = le_false (pos 0) y k in record {
      low = omega (arith, ints);
      high = omega (arith, ints);
      le = λ x a b. below_le z x (omega (arith, ints, less, e)) a;
      lt = λ x a b. below_lt z x (omega (arith, ints, less, e)) a;
      same = λ a b. omega (arith, ints, less, e, a);
      first = λ a. refl;
      last = λ a. omega (arith, ints, less, e, a);
    }

    three : pos n <ℤ z → (c : Bool) → int_le (pos 0) (pos n) ≡ c → IsClamped z n (cond c (pos n) (pos 0))
    three more true k = record {
      low = omega (arith, ints);
      high = omega (arith, ints);
      le = λ x a b. above_le z x n more b;
      lt = λ x a b. above_lt z x n more b;
      same = λ a b. omega (arith, ints, more, b);
      first = λ a. omega (arith, ints, more, a);
      last = λ a. refl;
    }
    three more false k = absurd (omega (arith, ints, le_false (pos 0) (pos n) k))

    pick : (b : Bool) → int_le z (pos n) ≡ b → IsClamped z n (most (pos 0) (cond b z (pos n)))
    pick true h = two z (int_le (pos 0) z) refl (le_true z (pos n) h) refl
    pick false h = three (le_false z (pos n) h) (int_le (pos 0) (pos n)) refl

le-moved : (l x d : ℤ) → int_le (d +ℤ l) x ≡ int_le l (x -ℤ d)
le-moved l x d = grind (arith, ints)

lt-moved : (r x d : ℤ) → int_lt x (d +ℤ r) ≡ int_lt (x -ℤ d) r
lt-moved r x d = grind (arith, ints)

pub four : (a b c d : Bool) → (a && b && c && d) ≡ true → (a ≡ true) × (b ≡ true) × (c ≡ true) × (d ≡ true)
four true true true true h = (refl, refl, refl, refl)
four true true true false h = absurd (false≢true h)
four true true false d h = absurd (false≢true h)
four true false c d h = absurd (false≢true h)
four false b c d h = absurd (false≢true h)

-- the clamped edges have the pixels of the screen that the window has
pub part_has_pixels : (width height : ℕ) (corner : Corner) (place part : Rect) → box_in part ≡ box (clamped (corner.x +ℤ place.l) width) (clamped (corner.y +ℤ place.t) height) (clamped (corner.x +ℤ place.r) width) (clamped (corner.y +ℤ place.b) height) →
    (p : Point) → is_on_screen width height p ≡ true → rect_has part p ≡ has_pixel (box_in place) (seen_from corner p)
unfolding rect_has
part_has_pixels width height corner place part same p on =
    let is = four (int_le (pos 0) p.x) (int_lt p.x (pos width)) (int_le (pos 0) p.y) (int_lt p.y (pos height)) on in
    let left = le_true (pos 0) p.x is.0 in
    let right = lt_true p.x (pos width) is.1 in
    let top = le_true (pos 0) p.y is.2 in
    let bottom = lt_true p.y (pos height) is.3 in
    let l = (clamped_is (corner.x +ℤ place.l) width).le p.x left right ∙ le-moved place.l p.x corner.x in
    let r = (clamped_is (corner.x +ℤ place.r) width).lt p.x left right ∙ lt-moved place.r p.x corner.x in
    let t = (clamped_is (corner.y +ℤ place.t) height).le p.y top bottom ∙ le-moved place.t p.y corner.y in
    let b = (clamped_is (corner.y +ℤ place.b) height).lt p.y top bottom ∙ lt-moved place.b p.y corner.y in
    ap (λ e. has_pixel e p) same ∙ rw (l, r, t, b) refl

falls : (a b : ℤ) (n : ℕ) → a ≤ℤ b → clamped a n ≤ℤ clamped b n
falls a b n h = pick (int_le a (pos 0)) refl (int_le (pos n) b) refl
  where
    one : IsClamped a n (clamped a n)
    one = clamped_is a n

    two : IsClamped b n (clamped b n)
    two = clamped_is b n

    pick : (c : Bool) → int_le a (pos 0) ≡ c → (d : Bool) → int_le (pos n) b ≡ d → clamped a n ≤ℤ clamped b n
    pick true e d k = omega (arith, ints, one.first (le_true a (pos 0) e), two.low)
    pick false e true k = omega (arith, ints, two.last (le_true (pos n) b k), one.high)
    pick false e false k =
        let low = le_false a (pos 0) e in
        let high = le_false (pos n) b k in
        omega (arith, ints, one.same (omega (arith, ints, low)) (omega (arith, ints, high, h)), two.same (omega (arith, ints, low, h)) (omega (arith, ints, high)), h)

-- they are edges of a rectangle
pub record AreEdges (l t r b : ℤ) : Type 0 where
  pub across : l ≤ℤ r
  pub down : t ≤ℤ b
  pub left_near : negsuc 8388607 ≤ℤ l
  pub top_near : negsuc 8388607 ≤ℤ t
  pub right_near : r ≤ℤ pos 8388608
  pub bottom_near : b ≤ℤ pos 8388608

pub part_edges : (width height : ℕ) (corner : Corner) (place : Rect) (l t r b : ℤ) → width < 65536 → height < 65536 → l ≡ clamped (corner.x +ℤ place.l) width → t ≡ clamped (corner.y +ℤ place.t) height → r ≡ clamped (corner.x +ℤ place.r) width → b ≡ clamped (corner.y +ℤ place.b) height → AreEdges l t r b
part_edges width height corner place l t r b w h el et er eb =
    let low_l = (clamped_is (corner.x +ℤ place.l) width).low in
    let low_t = (clamped_is (corner.y +ℤ place.t) height).low in
    let high_r = (clamped_is (corner.x +ℤ place.r) width).high in
    let high_b = (clamped_is (corner.y +ℤ place.b) height).high in
    let across = falls (corner.x +ℤ place.l) (corner.x +ℤ place.r) width (omega (arith, ints, place.across)) in
    let down = falls (corner.y +ℤ place.t) (corner.y +ℤ place.b) height (omega (arith, ints, place.down)) in
    record {
      across = omega (arith, ints, el, er, across);
      down = omega (arith, ints, et, eb, down);
      left_near = omega (arith, ints, el, low_l);
      top_near = omega (arith, ints, et, low_t);
      right_near = omega (arith, ints, er, high_r, w);
      bottom_near = omega (arith, ints, eb, high_b, h);
    }

pub same_edges : (l t r b m u s c : ℤ) → l ≡ m → t ≡ u → r ≡ s → b ≡ c → box l t r b ≡ box m u s c
same_edges l t r b m u s c e f g h = cc
