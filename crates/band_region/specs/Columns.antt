-- Columns of one row, and which pixels an operation keeps.
use Rattle.std.specs.Prelude.{◌≡◌, Bool, not, ◌&&◌, ◌||◌, ℤ, pos, negsuc, ◌≤ℤ◌, ◌<ℤ◌, int_le, int_lt, List, All}
use Rattle.std.specs.List.{AllPairs, list_any}
use Rattle.win_num.specs.declared.shapes.Rect.{Rect}
use Rattle.band_region.specs.declared.columns.Mix.{Mix}
use Rattle.band_region.specs.declared.columns.Mix.TheVariants.{And, Or, Xor, Diff}
use Rattle.band_region.specs.declared.columns.Span.{Span}
use Rattle.band_region.specs.declared.columns.Stretch.{Stretch}
use Rattle.band_region.specs.Regions.{is_in_one}

-- whether a pixel is kept, by whether the first and the second region has it
abbrev pub kept : Mix → Bool → Bool → Bool
kept And first second = first && second
kept Or first second = first || second
kept Xor first second = is_in_one first second
kept Diff first second = first && not second

-- whether a column is from the left edge on and before the right one
unfoldable pub column_in : ℤ → ℤ → ℤ → Bool
column_in l r x = int_le l x && int_lt x r

-- whether a span of the list has the column
abbrev pub spans_have : List Span → ℤ → Bool
spans_have spans x = list_any (λ s. column_in s.l s.r x) spans

-- whether a rectangle of the list has the column
abbrev pub columns_have : List Rect → ℤ → Bool
columns_have rs x = list_any (λ r. column_in r.l r.r x) rs

-- a rectangle lies left of another one and doesn't touch it
abbrev pub IsLeftOf : Rect → Rect → Type 0
IsLeftOf r s = r.r <ℤ s.l

-- from the column on up to an end, all columns are in the row or none is
pub record IsStretch (row : List Rect) (x : ℤ) (s : Stretch) : Type 0 where
  pub on : x <ℤ s.end
  pub near : s.end ≤ℤ pos 8388608
  pub same : (z : ℤ) → x ≤ℤ z → z <ℤ s.end → columns_have row z ≡ s.inside

-- what a row has from a column on
pub record IsRightOf (row : List Rect) (x : ℤ) (rest : List Rect) : Type 0 where
  pub apart : AllPairs IsLeftOf rest
  pub ahead : All (λ r. x <ℤ r.r) rest
  pub same : (z : ℤ) → x ≤ℤ z → columns_have rest z ≡ columns_have row z

-- the span has a column, and lies in the plane
pub record IsGood (s : Span) : Type 0 where
  pub across : s.l <ℤ s.r
  pub left_near : negsuc 8388607 ≤ℤ s.l
  pub right_near : s.r ≤ℤ pos 8388608

-- spans from left to right that don't touch
pub record IsRow (spans : List Span) : Type 0 where
  pub good : All IsGood spans
  pub apart : AllPairs (λ s t. s.r <ℤ t.l) spans

-- the list gains the columns from l up to r
pub record IsSpanAdded (old : List Span) (l r : ℤ) (new : List Span) : Type 0 where
  pub row : IsRow new
  pub ended : All (λ s. s.r ≤ℤ r) new
  pub same : (z : ℤ) → spans_have new z ≡ (spans_have old z || column_in l r z)

-- the spans have the columns that are kept of two rows
pub record IsMixedRow (mix : Mix) (first second : List Rect) (spans : List Span) : Type 0 where
  pub row : IsRow spans
  pub same : (z : ℤ) → spans_have spans z ≡ kept mix (columns_have first z) (columns_have second z)
