-- The pixels that a window owns.
use Rattle.std.specs.Prelude.{Bool, not, ◌&&◌, List}
use Rattle.win_num.specs.declared.shapes.Point.{Point}
use Rattle.win_num.specs.declared.shapes.Rect.{Rect}
use Rattle.win_num.specs.PixelSets.{has_pixel}
use Rattle.win_num.specs.Rects.{box_in}
use Rattle.band_region.specs.Regions.{region_has}

-- whether the pixel is one of the screen and of the window, and of none of the others
abbrev pub is_owned : Rect → Rect → List Rect → List Rect → Point → Bool
is_owned screen own above children p = has_pixel (box_in screen) p && has_pixel (box_in own) p && not (region_has above p) && not (region_has children p)
