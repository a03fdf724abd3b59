-- Colours that are painted into a list of pixels.
use Rattle.std.specs.Prelude.{if◌then◌else◌, ℕ, ◌≡◌, ◌+◌, ◌*◌, ◌<◌, ◌&&◌, Bool, nat_lt, nat_le, ℤ, pos, ◌≤ℤ◌, List, get_or, length}
use Rattle.win_num.specs.declared.shapes.Point.{Point}
use Rattle.screen_buf.specs.Pictures.{pixel}

-- the place of an edge on a screen of that size, or of the nearest edge of the screen
pub record IsClipped (edge : ℤ) (size place : ℕ) : Type 0 where
  pub before : edge ≤ℤ pos 0 → place ≡ 0
  pub within : pos 0 ≤ℤ edge → edge ≤ℤ pos size → pos place ≡ edge
  pub behind : pos size ≤ℤ edge → place ≡ size

-- the list gets the colour from one place up to another, that one left out
pub record IsSpanned (old : List ℕ) (from to colour : ℕ) (new : List ℕ) : Type 0 where
  pub size : length new ≡ length old
  pub colours : (i : ℕ) → i < length old → get_or new i 0 ≡ (if nat_le from i && nat_lt i to then colour else get_or old i 0)

-- the rows, so many and so wide, get the colour between the columns left and right and the rows top and bottom
pub record IsBlocked (old : List ℕ) (width height left right top bottom colour : ℕ) (new : List ℕ) : Type 0 where
  pub size : length new ≡ length old
  pub colours : (x y : ℕ) → x < width → y < height → get_or new (y * width + x) 0 ≡ (if nat_le left x && nat_lt x right && nat_le top y && nat_lt y bottom then colour else get_or old (y * width + x) 0)

-- the rows, so many and so wide, get the colour at the pixels that pass the test
pub record IsCoated (old : List ℕ) (width height : ℕ) (test : Point → Bool) (colour : ℕ) (new : List ℕ) : Type 0 where
  pub size : length new ≡ length old
  pub colours : (x y : ℕ) → x < width → y < height → get_or new (y * width + x) 0 ≡ (if test (pixel x y) then colour else get_or old (y * width + x) 0)
