-- The colours of a screen's pixels.
use Rattle.std.specs.Prelude.{if◌then◌else◌, ℕ, ◌≡◌, ◌+◌, ◌*◌, ◌<◌, Bool, true, false, ℤ, pos, List, get_or, replicate}
use Rattle.win_num.specs.declared.shapes.Point.{Point}
use Rattle.win_num.specs.PixelSets.{box, has_pixel}
use Rattle.band_region.specs.Regions.{moved_back}

-- width and height of a screen, in pixels, and the colours of its pixels, row by row
pub record Picture : Type 0 where
  pub width : ℕ
  pub height : ℕ
  pub colours : List ℕ

-- the colour of the pixel in column x of row y
abbrev pub colour_at : Picture → ℕ → ℕ → ℕ
colour_at s x y = get_or s.colours (y * s.width + x) 0

-- the pixel in column x of row y
abbrev pub pixel : ℕ → ℕ → Point
pixel x y = record { x = pos x; y = pos y }

-- a screen of that width and height, each of its pixels 0
abbrev pub blank : ℕ → ℕ → Picture
blank width height = record { width = width; height = height; colours = replicate (height * width) 0 }

-- the pixels of the screen that pass the test get the colour, and the others keep theirs
pub record IsPainted (old : Picture) (test : Point → Bool) (colour : ℕ) (new : Picture) : Type 0 where
  pub width : new.width ≡ old.width
  pub height : new.height ≡ old.height
  pub colours : (x y : ℕ) → x < old.width → y < old.height → colour_at new x y ≡ (if test (pixel x y) then colour else colour_at old x y)

-- whether the point is a pixel of a screen of that width and height
abbrev pub is_on : ℕ → ℕ → Point → Bool
is_on width height p = has_pixel (box (pos 0) (pos 0) (pos width) (pos height)) p

-- each point that passes the test is a pixel of the screen, and so is the one that a move by dx and dy brings there
pub record LiesOn (width height : ℕ) (test : Point → Bool) (dx dy : ℤ) : Type 0 where
  pub here : (p : Point) → test p ≡ true → is_on width height p ≡ true
  pub there : (p : Point) → test p ≡ true → is_on width height (moved_back dx dy p) ≡ true

-- each pixel that passes the test gets the colour that the one had which the move by dx and dy brings there, and the others keep theirs
pub record IsCarried (old : Picture) (test : Point → Bool) (dx dy : ℤ) (new : Picture) : Type 0 where
  pub width : new.width ≡ old.width
  pub height : new.height ≡ old.height
  pub carried : (x y u v : ℕ) → x < old.width → y < old.height → test (pixel x y) ≡ true → moved_back dx dy (pixel x y) ≡ pixel u v → colour_at new x y ≡ colour_at old u v
  pub kept : (x y : ℕ) → x < old.width → y < old.height → test (pixel x y) ≡ false → colour_at new x y ≡ colour_at old x y
