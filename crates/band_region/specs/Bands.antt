-- Bands of rows.
use Rattle.std.specs.Prelude.{◌≡◌, ◌≤◌, ◌&&◌, ◌||◌, ◌⊎◌, ℤ, pos, ◌≤ℤ◌, ◌<ℤ◌, List, All, Contains, take, length}
use Rattle.std.specs.List.{AllPairs}
use Rattle.win_num.specs.declared.shapes.Point.{Point}
use Rattle.win_num.specs.declared.shapes.Rect.{Rect}
use Rattle.band_region.specs.declared.columns.Mix.{Mix}
use Rattle.band_region.specs.declared.columns.Span.{Span}
use Rattle.band_region.specs.declared.bands.Rows.{Rows}
use Rattle.band_region.specs.Regions.{region_has, IsBefore, IsBanded, IsFilled}
use Rattle.band_region.specs.Columns.{column_in, spans_have, columns_have, kept, IsLeftOf}

-- from the row on up to an end, the list has the columns of so many first rectangles
pub record IsRowsAt (rs : List Rect) (y : ℤ) (s : Rows) : Type 0 where
  pub within : s.count ≤ length rs
  pub on : y <ℤ s.end
  pub near : s.end ≤ℤ pos 8388608
  pub apart : AllPairs IsLeftOf (take s.count rs)
  pub same : (p : Point) → y ≤ℤ p.y → p.y <ℤ s.end → region_has rs p ≡ columns_have (take s.count rs) p.x

-- what a list has from a row on
pub record IsBelow (rs : List Rect) (y : ℤ) (rest : List Rect) : Type 0 where
  pub apart : AllPairs IsBefore rest
  pub ahead : All (λ r. y <ℤ r.b) rest
  pub same : (p : Point) → y ≤ℤ p.y → region_has rest p ≡ region_has rs p

-- the list gains the columns of the row, in the rows from the top on and above the bottom
pub record IsBandAdded (old : List Rect) (row : List Span) (top bottom : ℤ) (new : List Rect) : Type 0 where
  pub same : (p : Point) → region_has new p ≡ (region_has old p || (column_in top bottom p.y && spans_have row p.x))
  pub filled : All IsFilled old → All IsFilled new
  pub apart : AllPairs IsBefore old → AllPairs IsBefore new
  pub bottoms : All (λ r. Contains old r ⊎ (r.b ≡ bottom)) new

-- the list is in bands, and has the pixels that are kept of two lists
pub record IsMixed (mix : Mix) (first second new : List Rect) : Type 0 where
  pub banded : IsBanded new
  pub same : (p : Point) → region_has new p ≡ kept mix (region_has first p) (region_has second p)
