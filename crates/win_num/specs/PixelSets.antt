-- Rectangles and sets of pixels.
use Rattle.std.specs.Prelude.{if◌then◌else◌, ℕ, ◌==◌, Bool, false, ◌&&◌, ◌||◌, ℤ, pos, negsuc, ◌+ℤ◌, ◌-ℤ◌, ◌*ℤ◌, int_lt, int_le, List, [], ◌∷◌, length}
use Rattle.win_num.specs.declared.shapes.Point.{Point}

-- a rectangle of pixels, without its right and bottom edge
pub record Box : Type 0 where
  pub left : ℤ
  pub top : ℤ
  pub right : ℤ
  pub bottom : ℤ

-- a rectangle from its edges
abbrev pub box : ℤ → ℤ → ℤ → ℤ → Box
box l t r b = record { left = l; top = t; right = r; bottom = b }

-- whether the rectangle has the pixel
abbrev pub has_pixel : Box → Point → Bool
has_pixel b p = int_le b.left p.x && int_lt p.x b.right && int_le b.top p.y && int_lt p.y b.bottom

-- whether a number is too large for an edge
abbrev pub is_far : ℤ → Bool
is_far z = int_lt z (negsuc 8388607) || int_lt (pos 8388608) z

-- whether the edges make no rectangle: they are in the wrong order, or too far away
abbrev pub is_bad_rect : ℤ → ℤ → ℤ → ℤ → Bool
is_bad_rect l t r b = int_lt r l || int_lt b t || is_far l || is_far t || is_far r || is_far b

-- whether two whole numbers are the same
abbrev pub same_int : ℤ → ℤ → Bool
same_int (pos m) (pos n) = m == n
same_int (negsuc m) (negsuc n) = m == n
same_int (pos m) (negsuc n) = false
same_int (negsuc m) (pos n) = false

-- the lesser of two
abbrev pub least : ℤ → ℤ → ℤ
least a b = if int_le a b then a else b

-- the greater of two
abbrev pub most : ℤ → ℤ → ℤ
most a b = if int_le a b then b else a

-- whether two rectangles have the same edges
abbrev pub same_box : Box → Box → Bool
same_box a b = same_int a.left b.left && same_int a.top b.top && same_int a.right b.right && same_int a.bottom b.bottom

-- the least rectangle around the pixels, or 0 0 0 0
abbrev pub bounds : List Point → Box
bounds [] = box (pos 0) (pos 0) (pos 0) (pos 0)
bounds (p ∷ []) = box p.x p.y (p.x +ℤ pos 1) (p.y +ℤ pos 1)
bounds (p ∷ q ∷ ps) = let rest = bounds (q ∷ ps) in box (least p.x rest.left) (least p.y rest.top) (most (p.x +ℤ pos 1) rest.right) (most (p.y +ℤ pos 1) rest.bottom)

-- 1 for no pixel, 2 for all pixels of one rectangle, else 3
abbrev pub kind_of : List Point → ℕ
kind_of [] = 1
kind_of (p ∷ ps) = let b = bounds (p ∷ ps) in (if same_int ((b.right -ℤ b.left) *ℤ (b.bottom -ℤ b.top)) (pos (length (p ∷ ps))) then 2 else 3)
