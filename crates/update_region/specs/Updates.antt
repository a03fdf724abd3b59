-- Dirty pixels and the erase flag.
use Rattle.std.specs.Prelude.{Bool, List}
use Rattle.win_num.specs.declared.shapes.Rect.{Rect}

-- the dirty pixels, as a list of rectangles, and whether the background is to be erased
pub record Dirty : Type 0 where
  pub area : List Rect
  pub erases : Bool
