-- Which window owns a pixel of the screen.
use Rattle.std.specs.Prelude.{if◌then◌else◌, ℕ, zero, suc, ◌==◌, Bool, true, false, ◌&&◌, ℤ, pos, ◌+ℤ◌, length, reverse, find, Option, Some, None}
use Rattle.win_num.specs.declared.message.Hwnd.{Hwnd}
use Rattle.win_num.specs.declared.shapes.Point.{Point}
use Rattle.win_num.specs.PixelSets.{Box, box, has_pixel}
use Rattle.user_model.specs.declared.entry.Setup.{Setup}
use Rattle.user_model.specs.Past.{Past}
use Rattle.user_model.specs.Windows.{live, parent_in}
use Rattle.user_model.specs.Looks.{place_of, is_shown}
use Rattle.user_model.specs.ZOrder.{hwnd, siblings}

-- a point from its parts
abbrev pub point : ℤ → ℤ → Point
point x y = record { x = x; y = y }

-- the left top corner of a rectangle, moved by another corner
abbrev pub corner_from : Point → Box → Point
corner_from o b = point (b.left +ℤ o.x) (b.top +ℤ o.y)

-- a rectangle moved by a corner
abbrev pub shifted : Point → Box → Box
shifted o b = box (b.left +ℤ o.x) (b.top +ℤ o.y) (b.right +ℤ o.x) (b.bottom +ℤ o.y)

-- w's left top corner on the screen: its own, moved by those of what it stands under, or for 0 the screen's; a parent has a lesser
-- number, which bounds the walk
abbrev pub origin_within : ℕ → Past → ℕ → Point
origin_within zero past w = point (pos 0) (pos 0)
origin_within (suc n) past w = elim (w == 0) [ true ↦ point (pos 0) (pos 0) | false ↦ corner_from (origin_within n past (parent_in (live past) w)) (place_of past w) ]

abbrev pub origin : Past → ℕ → Point
origin past w = origin_within w past w

-- w's rectangle on the screen: its place, moved by the corner of its parent
abbrev pub box_of : Past → ℕ → Box
box_of past w = shifted (origin past (parent_in (live past) w)) (place_of past w)

-- whether w has WS_VISIBLE and has the pixel
abbrev pub covers : Past → Point → Hwnd → Bool
covers past p w = is_shown past w.0 && has_pixel (box_of past w.0) p

-- the highest child of w, or for 0 top-level window, that has the pixel
abbrev pub highest : Past → Point → ℕ → Option Hwnd
highest past p w = find (covers past p) (reverse (siblings past w))

-- from w down to the highest child that has the pixel, until none has it; each step goes to another live window, whose count bounds
-- the steps
abbrev pub deepest : ℕ → Past → Point → Hwnd → Hwnd
deepest zero past p w = w
deepest (suc n) past p w = elim (highest past p w.0) [ Some v ↦ deepest n past p v | None ↦ w ]

-- the screen's rectangle
abbrev pub screen : Setup → Box
screen setup = box (pos 0) (pos 0) (pos setup.width) (pos setup.height)

-- the window that owns the pixel, or 0: from the screen down through windows that are visible; a point off the screen has no owner
abbrev pub owner : Setup → Past → Point → Hwnd
owner setup past p = if has_pixel (screen setup) p then deepest (length (live past)) past p (hwnd 0) else hwnd 0
