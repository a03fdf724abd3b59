-- How often a point is in the list of a screen's points.
use Rattle.std.proofs.Common.{◌≡◌, ◌+◌, ℕ, zero, suc, Bool, true, false, ◌&&◌, cond, refl, ap, ◌∙◌, arith}
use Rattle.std.specs.Prelude.{ℤ, pos, negsuc, int_le, int_lt, count_by}
use Rattle.std.proofs.lemmas.Bool.Decides.{nat_tests}
use Rattle.std.proofs.lemmas.List.Sums.{sum_by_push, sum_by-append}
use Rattle.win_num.specs.declared.shapes.Point.{Point}
use Rattle.win_num.specs.PixelSets.{has_pixel, same_int}
use Rattle.region_box.specs.Screens.{row_points, screen_points, screen_box, same_point}
use Rattle.region_box.proofs.Points.{point}

-- whether a number is one of the first n
abbrev is_early : ℤ → ℕ → Bool
is_early x n = int_le (pos 0) x && int_lt x (pos n)

early_more : (x : ℤ) (n : ℕ) → cond (is_early x n) 1 0 + cond (same_int x (pos n)) 1 0 ≡ cond (is_early x (suc n)) 1 0
early_more (pos x) n = grind (arith, nat_tests)
early_more (negsuc x) n = refl

early_none : (x : ℤ) → is_early x 0 ≡ false
early_none (pos x) = grind (arith, nat_tests)
early_none (negsuc x) = refl

row_step : (t r s u : Bool) → cond r 1 0 + cond s 1 0 ≡ cond u 1 0 → cond t (cond r 1 0) 0 + cond (s && t) 1 0 ≡ cond t (cond u 1 0) 0
row_step true true true u h = h
row_step true true false u h = h
row_step true false true u h = h
row_step true false false u h = h
row_step false r true u h = refl
row_step false r false u h = refl

cond_none : (b : Bool) (n : ℕ) → n ≡ 0 → n ≡ cond b n 0
cond_none true n e = refl
cond_none false n e = e

row_once : (p : Point) (y n : ℕ) → count_by (same_point p) (row_points (pos y) n) ≡ cond (same_int p.y (pos y)) (cond (is_early p.x n) 1 0) 0
unfolding row_points
row_once p y zero = rw (early_none p.x) (cond_none (same_int p.y (pos y)) 0 refl)
row_once p y (suc n) =
    sum_by_push (λ q. cond (same_point p q) 1 0) (row_points (pos y) n) (point n y)
    ∙ (ap (λ k. k + cond (same_point p (point n y)) 1 0) (row_once p y n) ∙ row_step (same_int p.y (pos y)) (is_early p.x n) (same_int p.x (pos n)) (is_early p.x (suc n)) (early_more p.x n))

screen_step : (r t s u : Bool) → cond t 1 0 + cond s 1 0 ≡ cond u 1 0 → cond (r && t) 1 0 + cond s (cond r 1 0) 0 ≡ cond (r && u) 1 0
screen_step true t true u h = h
screen_step true t false u h = h
screen_step false t true u h = refl
screen_step false t false u h = refl

and_none : (b : Bool) (m n : ℕ) → n ≡ cond (b && false) m n
and_none true m n = refl
and_none false m n = refl

screen_by : (p : Point) (width n : ℕ) → count_by (same_point p) (screen_points width n) ≡ cond (is_early p.x width && is_early p.y n) 1 0
unfolding screen_points
screen_by p width zero = rw (early_none p.y) (and_none (is_early p.x width) 1 0)
screen_by p width (suc n) =
    sum_by-append (λ q. cond (same_point p q) 1 0) (screen_points width n) (row_points (pos n) width)
    ∙ (rw (screen_by p width n, row_once p n width) (screen_step (is_early p.x width) (is_early p.y n) (same_int p.y (pos n)) (is_early p.y (suc n)) (early_more p.y n)))

and_assoc : (a b c d : Bool) → ((a && b) && (c && d)) ≡ (a && b && c && d)
and_assoc true true c d = refl
and_assoc true false c d = refl
and_assoc false b c d = refl

pub point_once : (width height : ℕ) (p : Point) → count_by (same_point p) (screen_points width height) ≡ cond (has_pixel (screen_box width height) p) 1 0
point_once width height p = screen_by p width height ∙ ap (λ b. cond b 1 0) (and_assoc (int_le (pos 0) p.x) (int_lt p.x (pos width)) (int_le (pos 0) p.y) (int_lt p.y (pos height)))
