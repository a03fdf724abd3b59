-- Tests of edges.
use Rattle.std.proofs.Common.{◌≡◌, ◌<◌, ◌^◌, true, false, refl, ap, w32, to_z, of_z, arith}
use Rattle.std.specs.Int.Signed.{mag}
use Rattle.std.specs.Prelude.{ℤ, pos, negsuc, ◌-ℤ◌, ◌≤ℤ◌, ◌<ℤ◌, int_lt, int_le, FitsSigned}
use borrow.Author.Differences.{up}
use Rattle.std.specs.Int.{int_max, int_min}
use Rattle.std.proofs.lemmas.Int.{ints, clamps, fits_signed_from_abs}
use Rattle.win_num.specs.PixelSets.{Box, box, is_bad_rect, is_far}
use Rattle.win_num.specs.declared.shapes.Rect.{Rect}
use Rattle.win_num.specs.Rects.{box_in}
use Rattle.band_region.specs.Pieces.{IsJoined}

pub near : (z : ℤ) → negsuc 8388607 ≤ℤ z → z ≤ℤ pos 8388608 → is_far z ≡ false
near z h k = grind (arith, ints)

pub lt_no : (a b : ℤ) → b ≤ℤ a → int_lt a b ≡ false
lt_no a b h = grind (arith, ints)

pub lt_yes : (a b : ℤ) → a <ℤ b → int_lt a b ≡ true
lt_yes a b h = grind (arith, ints)

pub le_no : (a b : ℤ) → b <ℤ a → int_le a b ≡ false
le_no a b h = grind (arith, ints)

pub le_yes : (a b : ℤ) → a ≤ℤ b → int_le a b ≡ true
le_yes a b h = grind (arith, ints)

pub le-from_lt : (a b : ℤ) → a <ℤ b → a ≤ℤ b
le-from_lt a b h = omega (arith, ints)

pub ≤ℤ-trans : (a b c : ℤ) → a ≤ℤ b → b ≤ℤ c → a ≤ℤ c
≤ℤ-trans a b c h k = omega (arith, ints)

pub good_rect : (l t r b : ℤ) → l ≤ℤ r → t ≤ℤ b → negsuc 8388607 ≤ℤ l → negsuc 8388607 ≤ℤ t → r ≤ℤ pos 8388608 → b ≤ℤ pos 8388608 → is_bad_rect l t r b ≡ false
good_rect l t r b h k hl ht hr hb =
    rw (lt_no r l h, lt_no b t k, near l hl (≤ℤ-trans l r (pos 8388608) h hr), near t ht (≤ℤ-trans t b (pos 8388608) k hb), near r (≤ℤ-trans (negsuc 8388607) l r hl h) hr, near b (≤ℤ-trans (negsuc 8388607) t b ht k) hb) refl

pub near_fits : (z : ℤ) → negsuc 8388607 ≤ℤ z → z ≤ℤ pos 8388608 → FitsSigned w32 z
near_fits z h k = fits_signed_from_abs w32 z (omega (arith, ints))

-- the edges of a rectangle fit 32 bits
pub left_fits : (x : Rect) → FitsSigned w32 x.l
left_fits x = near_fits x.l x.left_near (≤ℤ-trans _ _ _ x.across x.right_near)

pub top_fits : (x : Rect) → FitsSigned w32 x.t
top_fits x = near_fits x.t x.top_near (≤ℤ-trans _ _ _ x.down x.bottom_near)

pub right_fits : (x : Rect) → FitsSigned w32 x.r
right_fits x = near_fits x.r (≤ℤ-trans _ _ _ x.left_near x.across) x.right_near

pub bottom_fits : (x : Rect) → FitsSigned w32 x.b
bottom_fits x = near_fits x.b (≤ℤ-trans _ _ _ x.top_near x.down) x.bottom_near

-- the lesser of two left edges lies left of the greater of their right ones
pub in_order : (m l r n x y : ℤ) → mag m < 2 ^ 31 → mag x < 2 ^ 31 → mag y < 2 ^ 31 → mag n < 2 ^ 31 → m ≤ℤ to_z w32 (of_z w32 x) → x ≡ l → l ≤ℤ r → y ≡ r → to_z w32 (of_z w32 y) ≤ℤ n
    → to_z w32 (of_z w32 m) ≤ℤ to_z w32 (of_z w32 n)
in_order m l r n x y fm fx fy fn a b c d e = omega (arith, ints)

-- edges that are the lesser and greater ones of two rectangles make the least one around both
pub joined_is : (a b c : Rect) (l t r d : ℤ) → l ≡ int_min a.l b.l → t ≡ int_min a.t b.t → r ≡ int_max a.r b.r → d ≡ int_max a.b b.b → box_in c ≡ box l t r d → IsJoined a b c
joined_is a b c l t r d el et er ed e =
    let cl : c.l ≡ l = ap (λ (x : Box). x.left) e in
    let ct : c.t ≡ t = ap (λ (x : Box). x.top) e in
    let cr : c.r ≡ r = ap (λ (x : Box). x.right) e in
    let cb : c.b ≡ d = ap (λ (x : Box). x.bottom) e in
    record {
      first = record { left = omega (arith, ints, clamps); top = omega (arith, ints, clamps); right = omega (arith, ints, clamps); bottom = omega (arith, ints, clamps) };
      second = record { left = omega (arith, ints, clamps); top = omega (arith, ints, clamps); right = omega (arith, ints, clamps); bottom = omega (arith, ints, clamps) };
      least = λ around p q. record { left = omega (arith, ints, clamps); top = omega (arith, ints, clamps); right = omega (arith, ints, clamps); bottom = omega (arith, ints, clamps) };
    }

pub box_same : {l t r b l' t' r' b' : ℤ} → l ≡ l' → t ≡ t' → r ≡ r' → b ≡ b' → box l t r b ≡ box l' t' r' b'
box_same e f g h = cc

up-less : (z w : ℤ) → w <ℤ z → pos 0 <ℤ z → up w < up z
up-less (pos n) (pos m) h k = omega (arith, ints)
up-less (pos n) (negsuc m) h k = omega (arith, ints)
up-less (negsuc n) w h k = absurd (omega (arith, ints))

-- a distance to an edge gets less
pub nearer : (e a b : ℤ) → a <ℤ b → a <ℤ e → up (e -ℤ b) < up (e -ℤ a)
nearer e a b h k = up-less (e -ℤ a) (e -ℤ b) (omega (arith, ints)) (omega (arith, ints))
