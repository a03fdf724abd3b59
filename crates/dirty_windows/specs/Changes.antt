-- What a call does to the dirty pixels and the erase flags of all windows.
use Rattle.std.specs.Prelude.{◌≡◌, ℕ, ◌==◌, Bool, true, false, not, ◌&&◌, ◌||◌, List}
use Rattle.win_num.specs.declared.message.Hwnd.{Hwnd}
use Rattle.win_num.specs.declared.shapes.Point.{Point}
use Rattle.win_num.specs.declared.shapes.Rect.{Rect}
use Rattle.band_region.specs.Regions.{region_has}
use Rattle.screen_owners.specs.declared.owners.Owned.{Owned}
use Rattle.screen_owners.specs.Owners.{region_in}
use Rattle.dirty_windows.specs.declared.entries.DirtyWindow.{DirtyWindow}
use Rattle.dirty_windows.specs.LookUps.{area_in, erases_in, is_among, RisesFrom}

-- a pixel is carried for a window that has moved, where it is one of these
abbrev pub carries : List Hwnd → List Rect → ℕ → Point → Bool
carries moved carried w p = is_among w moved && region_has carried p

-- a pixel is exposed for a window where the window owns it now, and didn't before or has moved, and it isn't carried; for the screen, which
-- is window 0, none is
abbrev pub exposes : List Owned → List Owned → List Hwnd → List Rect → ℕ → Point → Bool
exposes old new moved carried w p = not (w == 0) && ((region_has (region_in new w) p && (is_among w moved || not (region_has (region_in old w) p))) && not (carries moved carried w p))

-- each pixel is dirty as before, and those of the area are dirty for the window; its flag is set where `erase` is true
pub record IsAdded (w : ℕ) (part : List Rect) (erase : Bool) (old new : List DirtyWindow) : Type 0 where
  pub rising : RisesFrom 0 new
  pub area : (v : ℕ) (p : Point) → region_has (area_in new v) p ≡ (region_has (area_in old v) p || ((w == v) && region_has part p))
  pub erases : (v : ℕ) → erases_in new v ≡ (erases_in old v || ((w == v) && erase))

-- each window is dirty where it was and still owns the pixel, but where one is carried for it; the flags are as before
pub record IsCut (owners : List Owned) (moved : List Hwnd) (carried : List Rect) (old new : List DirtyWindow) : Type 0 where
  pub rising : RisesFrom 0 new
  pub area : (w : ℕ) (p : Point) → region_has (area_in new w) p ≡ ((region_has (area_in old w) p && region_has (region_in owners w) p) && not (carries moved carried w p))
  pub erases : (w : ℕ) → erases_in new w ≡ erases_in old w

-- the exposed pixels of the windows that a test picks are dirty, and the others as before; the flag of a picked window with an exposed
-- pixel is set, and each other flag is as before
pub record IsExposed (picked : ℕ → Bool) (old_owners new_owners : List Owned) (moved : List Hwnd) (carried : List Rect) (old new : List DirtyWindow) : Type 0 where
  pub rising : RisesFrom 0 new
  pub area : (w : ℕ) (p : Point) → region_has (area_in new w) p ≡ (region_has (area_in old w) p || (picked w && exposes old_owners new_owners moved carried w p))
  pub set : (w : ℕ) (p : Point) → picked w ≡ true → exposes old_owners new_owners moved carried w p ≡ true → erases_in new w ≡ true
  pub same : (w : ℕ) → ((p : Point) → (picked w && exposes old_owners new_owners moved carried w p) ≡ false) → erases_in new w ≡ erases_in old w
