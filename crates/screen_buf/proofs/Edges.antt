-- The edges of a rectangle fit 32 bits.
use Rattle.std.proofs.Common.{arith, w32}
use Rattle.std.specs.Prelude.{ℤ, pos, negsuc, ◌≤ℤ◌, FitsSigned}
use Rattle.std.proofs.lemmas.Int.{ints, fits_signed_from_abs}
use Rattle.win_num.specs.declared.shapes.Rect.{Rect}

between : (a b c : ℤ) → a ≤ℤ b → b ≤ℤ c → a ≤ℤ c
between a b c h k = omega (arith, ints)

near_fits : (z : ℤ) → negsuc 8388607 ≤ℤ z → z ≤ℤ pos 8388608 → FitsSigned w32 z
near_fits z h k = fits_signed_from_abs w32 z (omega (arith, ints))

pub left_fits : (x : Rect) → FitsSigned w32 x.l
left_fits x = near_fits x.l x.left_near (between _ _ _ x.across x.right_near)

pub top_fits : (x : Rect) → FitsSigned w32 x.t
top_fits x = near_fits x.t x.top_near (between _ _ _ x.down x.bottom_near)

pub right_fits : (x : Rect) → FitsSigned w32 x.r
right_fits x = near_fits x.r (between _ _ _ x.left_near x.across) x.right_near

pub bottom_fits : (x : Rect) → FitsSigned w32 x.b
bottom_fits x = near_fits x.b (between _ _ _ x.top_near x.down) x.bottom_near
