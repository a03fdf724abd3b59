-- Colours that are carried from one place of a list of pixels to another.
use Rattle.std.specs.Prelude.{ℕ, ◌≡◌, ◌+◌, ◌*◌, ◌≤◌, ◌<◌, ◌⊎◌, Bool, true, false, ℤ, List, get_or, length}
use Rattle.win_num.specs.declared.shapes.Point.{Point}
use Rattle.band_region.specs.Regions.{moved_back}
use Rattle.screen_buf.specs.Pictures.{pixel}
use Rattle.screen_buf.specs.declared.carry.Block.{Block}

-- the block, and the one that its colours come from, lie on a screen of that size
pub record Fits (width height : ℕ) (b : Block) : Type 0 where
  pub right : b.left + b.columns ≤ width
  pub bottom : b.top + b.rows ≤ height
  pub from_right : b.from_left + b.columns ≤ width
  pub from_bottom : b.from_top + b.rows ≤ height

-- so many pixels from one place on get the colours of as many from another place on, and the others keep theirs
pub record IsSpanCarried (old before : List ℕ) (to from count : ℕ) (new : List ℕ) : Type 0 where
  pub size : length new ≡ length old
  pub carried : (i : ℕ) → i < count → get_or new (to + i) 0 ≡ get_or before (from + i) 0
  pub left : (i : ℕ) → i < to → get_or new i 0 ≡ get_or old i 0
  pub right : (i : ℕ) → to + count ≤ i → get_or new i 0 ≡ get_or old i 0

-- the pixel in column x of row y isn't one of the block's first rows
abbrev pub IsOutside : Block → ℕ → ℕ → ℕ → Type 0
IsOutside b rows x y = (x < b.left) ⊎ ((b.left + b.columns ≤ x) ⊎ ((y < b.top) ⊎ (b.top + rows ≤ y)))

-- the block's first rows get the colours of those that they come from, and the other pixels keep theirs
pub record IsBlockCarried (old before : List ℕ) (width height : ℕ) (b : Block) (rows : ℕ) (new : List ℕ) : Type 0 where
  pub size : length new ≡ length old
  pub carried : (x y : ℕ) → x < b.columns → y < rows → get_or new ((b.top + y) * width + b.left + x) 0 ≡ get_or before ((b.from_top + y) * width + b.from_left + x) 0
  pub kept : (x y : ℕ) → x < width → y < height → IsOutside b rows x y → get_or new (y * width + x) 0 ≡ get_or old (y * width + x) 0

-- each pixel that passes the test gets the colour of the one that lies so far to the left and up, and the others keep theirs
pub record IsCopied (old before : List ℕ) (width height : ℕ) (test : Point → Bool) (dx dy : ℤ) (new : List ℕ) : Type 0 where
  pub size : length new ≡ length old
  pub carried : (x y u v : ℕ) → x < width → y < height → test (pixel x y) ≡ true → moved_back dx dy (pixel x y) ≡ pixel u v → get_or new (y * width + x) 0 ≡ get_or before (v * width + u) 0
  pub kept : (x y : ℕ) → x < width → y < height → test (pixel x y) ≡ false → get_or new (y * width + x) 0 ≡ get_or old (y * width + x) 0
