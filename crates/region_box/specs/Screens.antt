-- The points of a screen, and what is told of those that pass a test.
use Rattle.std.specs.Prelude.{ℕ, zero, suc, ◌≡◌, ◌≤◌, ◌⊎◌, ◌↔◌, Bool, true, false, ◌&&◌, ℤ, pos, ◌<ℤ◌, List, [], ◌∷◌, ◌++◌}
use Rattle.win_num.specs.declared.shapes.Point.{Point}
use Rattle.win_num.specs.declared.shapes.Rect.{Rect}
use Rattle.win_num.specs.PixelSets.{Box, box, has_pixel, same_int}
use Rattle.band_region.specs.Regions.{region_has}

-- a screen's rectangle
abbrev pub screen_box : ℕ → ℕ → Box
screen_box width height = box (pos 0) (pos 0) (pos width) (pos height)

-- so many points of a row, from left to right
unfoldable pub row_points : ℤ → ℕ → List Point
row_points y zero = []
row_points y (suc x) = row_points y x ++ record { x = pos x; y = y } ∷ []

-- the points of a screen of this width and height, row after row, each from left to right
unfoldable pub screen_points : ℕ → ℕ → List Point
screen_points width zero = []
screen_points width (suc y) = screen_points width y ++ row_points (pos y) width

-- whether two points are the same
abbrev pub same_point : Point → Point → Bool
same_point p q = same_int p.x q.x && same_int p.y q.y

-- a point lies in a row above another one, or left of it in the same row
abbrev pub IsEarlier : Point → Point → Type 0
IsEarlier p q = (p.y <ℤ q.y) ⊎ ((p.y ≡ q.y) × (p.x <ℤ q.x))

-- whether the point is a pixel of the screen and passes the test
abbrev pub passes : ℕ → ℕ → (Point → Bool) → Point → Bool
passes width height test p = has_pixel (screen_box width height) p && test p

-- the rectangles have the pixels of the screen that pass the test, and no other
abbrev pub IsPassing : ℕ → ℕ → (Point → Bool) → List Rect → Type 0
IsPassing width height test rs = (p : Point) → region_has rs p ≡ passes width height test p

-- the pixels are those of one rectangle, which has some
pub record IsOneBox (has : Point → Bool) : Type 0 where
  pub around : Box
  pub some : Point
  pub has_some : has_pixel around some ≡ true
  pub same : (p : Point) → has p ≡ has_pixel around p

-- the number is 1 for no pixel, 2 for all pixels of one rectangle, else 3
pub record IsKind (has : Point → Bool) (kind : ℕ) : Type 0 where
  pub empty : (kind ≡ 1) ↔ ((p : Point) → has p ≡ false)
  pub one : (kind ≡ 2) ↔ IsOneBox has
  pub least : 1 ≤ kind
  pub most : kind ≤ 3

-- the rectangle has each of the pixels, and every rectangle that has them all has its pixels too
pub record IsLeastBox (has : Point → Bool) (least : Box) : Type 0 where
  pub around : (p : Point) → has p ≡ true → has_pixel least p ≡ true
  pub within : (b : Box) → ((p : Point) → has p ≡ true → has_pixel b p ≡ true) → (p : Point) → has_pixel least p ≡ true → has_pixel b p ≡ true
