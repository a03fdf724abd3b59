-- Single rectangles and lists of them.
use Rattle.std.specs.Prelude.{◌≡◌, true, ℤ, ◌+ℤ◌, ◌≤ℤ◌, List, All}
use Rattle.std.specs.List.{AllZip}
use Rattle.win_num.specs.declared.shapes.Point.{Point}
use Rattle.win_num.specs.declared.shapes.Rect.{Rect}
use Rattle.win_num.specs.PixelSets.{Box, box}
use Rattle.win_num.specs.Rects.{box_in}
use Rattle.band_region.specs.Regions.{rect_has, region_has}

-- a rectangle of the list has the pixel, and the list has all of its pixels
pub record IsFoundAt (rs : List Rect) (p : Point) (r : Rect) : Type 0 where
  pub at : rect_has r p ≡ true
  pub covered : (q : Point) → rect_has r q ≡ true → region_has rs q ≡ true

-- the rectangle lies in the other one
pub record IsWithin (r : Rect) (b : Box) : Type 0 where
  pub left : b.left ≤ℤ r.l
  pub top : b.top ≤ℤ r.t
  pub right : r.r ≤ℤ b.right
  pub bottom : r.b ≤ℤ b.bottom

-- c is the least rectangle around a and b
pub record IsJoined (a b c : Rect) : Type 0 where
  pub first : IsWithin a (box_in c)
  pub second : IsWithin b (box_in c)
  pub least : (around : Box) → IsWithin a around → IsWithin b around → IsWithin c around

-- the rectangle lies around all, and within every other one that does
pub record Bounds (rs : List Rect) (c : Rect) : Type 0 where
  pub around : All (λ r. IsWithin r (box_in c)) rs
  pub least : (b : Box) → All (λ r. IsWithin r b) rs → IsWithin c b

-- the second rectangle is the first one, moved by dx and dy
abbrev pub IsShift : ℤ → ℤ → Rect → Rect → Type 0
IsShift dx dy r m = box_in m ≡ box (r.l +ℤ dx) (r.t +ℤ dy) (r.r +ℤ dx) (r.b +ℤ dy)

-- the new list has the rectangles of the other one, moved by dx and dy
abbrev pub IsMoved : List Rect → ℤ → ℤ → List Rect → Type 0
IsMoved old dx dy new = AllZip (IsShift dx dy) old new
