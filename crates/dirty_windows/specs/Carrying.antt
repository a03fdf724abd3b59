-- What windows that are moved carry of their pixels.
use Rattle.std.specs.Prelude.{ℕ, ◌==◌, Bool, not, ◌&&◌, pos, ◌-ℤ◌, ◌≤ℤ◌, List}
use Rattle.std.specs.List.{list_any}
use Rattle.win_num.specs.declared.message.Hwnd.{Hwnd}
use Rattle.win_num.specs.declared.shapes.Point.{Point}
use Rattle.band_region.specs.Regions.{moved_back, region_has}
use Rattle.screen_owners.specs.declared.owners.Owned.{Owned}
use Rattle.screen_owners.specs.declared.screen.Screen.{Screen}
use Rattle.screen_owners.specs.Owners.{is_on_screen, region_in}
use Rattle.dirty_windows.specs.declared.carry.Shift.{Shift}
use Rattle.dirty_windows.specs.declared.entries.DirtyWindow.{DirtyWindow}
use Rattle.dirty_windows.specs.LookUps.{area_in}

-- no further than a screen may be wide or high
pub record IsShort (s : Shift) : Type 0 where
  pub left : (pos 0 -ℤ pos 65535) ≤ℤ s.dx
  pub right : s.dx ≤ℤ pos 65535
  pub above : (pos 0 -ℤ pos 65535) ≤ℤ s.dy
  pub below : s.dy ≤ℤ pos 65535

-- the pixel that the move brings to this place
abbrev pub source : Shift → Point → Point
source s p = moved_back s.dx s.dy p

-- the window owned the pixel, and it wasn't dirty for it
abbrev pub is_clean_in : List DirtyWindow → List Owned → ℕ → Point → Bool
is_clean_in ds old w p = region_has (region_in old w) p && not (region_has (area_in ds w) p)

-- the window owns the pixel now, and it owned the one, clean, that the move brings there, both on the screen; for the screen itself, which
-- is window 0, the move brings none
abbrev pub brings : List DirtyWindow → List Owned → List Owned → Screen → Shift → ℕ → Point → Bool
brings ds old new screen s w p = not (w == 0) && ((is_clean_in ds old w (source s p) && is_on_screen screen.width screen.height (source s p)) && (region_has (region_in new w) p && is_on_screen screen.width screen.height p))

-- the move brings a pixel there for one of the windows
abbrev pub brings_any : List DirtyWindow → List Owned → List Owned → Screen → Shift → List Hwnd → Point → Bool
brings_any ds old new screen s moved p = list_any (λ h. brings ds old new screen s h.0 p) moved
