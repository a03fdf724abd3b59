-- The window that is painted next, where table, order and dirty pixels are those of a past.
use Rattle.std.specs.Prelude.{◌≡◌, ℕ, List, find, Option}
use Rattle.win_num.specs.declared.message.Filter.{Filter}
use Rattle.win_num.specs.declared.message.Hwnd.{Hwnd}
use Rattle.win_num.specs.declared.shapes.Point.{Point}
use Rattle.win_rows.specs.Windows.{Windows}
use Rattle.band_region.specs.Regions.{region_has}
use Rattle.user_model.specs.declared.entry.Setup.{Setup}
use Rattle.user_model.specs.Past.{Past}
use Rattle.user_model.specs.Dirty.{is_dirty}
use Rattle.user_model.specs.Painting.{painted_below, wants_paint}
use Rattle.window_state.specs.Trees.{IsTreeAt}
use Rattle.dirty_windows.specs.declared.entries.DirtyWindow.{DirtyWindow}
use Rattle.dirty_windows.specs.LookUps.{area_in}

-- the dirty pixels are those of the past
abbrev pub AreDirtyAt : Setup → Past → List DirtyWindow → Type 0
AreDirtyAt setup past ds = (w : ℕ) (p : Point) → region_has (area_in ds w) p ≡ is_dirty setup past w p

-- the past has made the table, and the dirty pixels are those of the past
pub record IsSeen (setup : Setup) (past : Past) (t : Windows) (ds : List DirtyWindow) : Type 0 where
  pub tree : IsTreeAt past t
  pub dirty : AreDirtyAt setup past ds

-- the first window of t below w that has a dirty pixel and passes, or for 0 of all, each before its children, siblings from the top down; n
-- bounds the depth
abbrev pub first_painted : Setup → Past → ℕ → Filter → ℕ → ℕ → Option Hwnd
first_painted setup past t f n w = find (wants_paint setup past t f) (painted_below n past w)
