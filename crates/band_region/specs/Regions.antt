-- Sets of pixels as lists of rectangles.
use Rattle.std.specs.Prelude.{if◌then◌else◌, ℕ, ◌≡◌, ◌≤◌, ◌⊎◌, Bool, true, false, not, ℤ, pos, negsuc, ◌-ℤ◌, ◌≤ℤ◌, ◌<ℤ◌, List, count_by, All}
use Rattle.std.specs.List.{AllPairs, list_any}
use Rattle.win_num.specs.declared.shapes.Point.{Point}
use Rattle.win_num.specs.declared.shapes.Rect.{Rect}
use Rattle.win_num.specs.PixelSets.{Box, box, has_pixel}
use Rattle.win_num.specs.Rects.{box_in}

-- whether the rectangle has the pixel
unfoldable pub rect_has : Rect → Point → Bool
rect_has r p = has_pixel (box_in r) p

-- whether a rectangle of the list has the pixel
abbrev pub region_has : List Rect → Point → Bool
region_has rs p = list_any (λ r. rect_has r p) rs

-- how many rectangles of the list have the pixel
abbrev pub depth : List Rect → Point → ℕ
depth rs p = count_by (λ r. rect_has r p) rs

-- no two rectangles of the list share a pixel
abbrev pub IsDisjoint : List Rect → Type 0
IsDisjoint rs = (p : Point) → depth rs p ≤ 1

-- the rectangle has a pixel
abbrev pub IsFilled : Rect → Type 0
IsFilled r = (r.l <ℤ r.r) × (r.t <ℤ r.b)

-- the pixel that a move by dx and dy brings to this place
abbrev pub moved_back : ℤ → ℤ → Point → Point
moved_back dx dy p = record { x = p.x -ℤ dx; y = p.y -ℤ dy }

-- the largest rectangle
abbrev pub plane : Box
plane = box (negsuc 8388607) (negsuc 8388607) (pos 8388608) (pos 8388608)

-- the list has no pixel
abbrev pub IsEmpty : List Rect → Type 0
IsEmpty rs = (p : Point) → region_has rs p ≡ false

-- each pixel of the list is one of the rectangle's
abbrev pub IsInside : List Rect → Box → Type 0
IsInside rs b = (p : Point) → region_has rs p ≡ true → has_pixel b p ≡ true

-- each pixel of the list, moved by dx and dy, is one of the plane's
abbrev pub StaysInPlane : List Rect → ℤ → ℤ → Type 0
StaysInPlane rs dx dy = (p : Point) → region_has rs (moved_back dx dy p) ≡ true → has_pixel plane p ≡ true

-- the pixels of the list are those of one rectangle, which has some
pub record IsOneRectangle (rs : List Rect) : Type 0 where
  pub around : Box
  pub some : Point
  pub has_some : has_pixel around some ≡ true
  pub same : (p : Point) → region_has rs p ≡ has_pixel around p

-- the rectangle has each pixel of the list, and every rectangle that has them all has its pixels too
pub record IsLeastAround (rs : List Rect) (least : Box) : Type 0 where
  pub around : IsInside rs least
  pub within : (b : Box) → IsInside rs b → (p : Point) → has_pixel least p ≡ true → has_pixel b p ≡ true

-- the lists have the same pixels
abbrev pub IsSameSet : List Rect → List Rect → Type 0
IsSameSet rs ss = (p : Point) → region_has rs p ≡ region_has ss p

-- a test is true of one of two and not of the other
abbrev pub is_in_one : Bool → Bool → Bool
is_in_one a b = if a then not b else b

-- a rectangle lies above another one, or left of it in the same rows and not touching it
abbrev pub IsBefore : Rect → Rect → Type 0
IsBefore r s = (r.b ≤ℤ s.t) ⊎ ((r.t ≡ s.t) × (r.b ≡ s.b) × (r.r <ℤ s.l))

-- two rows have the same pixels
abbrev pub SameRows : (Point → Bool) → ℤ → ℤ → Type 0
SameRows has y z = (x : ℤ) → has (record { x = x; y = y }) ≡ has (record { x = x; y = z })

-- the list is in bands: each rectangle has a pixel, comes before those after it in the list, and the row
-- below it differs from its last row
pub record IsBanded (rs : List Rect) : Type 0 where
  pub filled : All IsFilled rs
  pub apart : AllPairs IsBefore rs
  pub merged : All (λ r. ¬ (SameRows (region_has rs) (r.b -ℤ pos 1) r.b)) rs
