-- Where the entry of a window stands, or would stand.
use Rattle.std.specs.Prelude.{◌≡◌, ◌≢◌, ℕ, ◌<◌, ◌≤◌, List, length, slice_index_or}
use Rattle.band_region.specs.Regions.{region_has}
use Rattle.win_num.specs.declared.shapes.Point.{Point}
use Rattle.update_region.specs.Updates.{Dirty}
use Rattle.dirty_windows.specs.declared.entries.DirtyWindow.{DirtyWindow}
use Rattle.dirty_windows.specs.LookUps.{area_in, erases_in, update_in, RisesFrom}

-- the entry there is the window's
pub record IsAt (ds : List DirtyWindow) (w : ℕ) (i : ℕ) : Type 0 where
  pub within : i < length ds
  pub window : (d : DirtyWindow) → (slice_index_or ds i d).window.0 ≡ w

-- the window has no entry, and one would have to stand there
pub record IsMissingAt (ds : List DirtyWindow) (w : ℕ) (i : ℕ) : Type 0 where
  pub within : i ≤ length ds
  pub below : (k : ℕ) (d : DirtyWindow) → k < i → (slice_index_or ds k d).window.0 < w
  pub above : (d : DirtyWindow) → i < length ds → w < (slice_index_or ds i d).window.0

-- the update is now the window's, and those of other windows are as before
pub record IsPut (w : ℕ) (u : Dirty) (old new : List DirtyWindow) : Type 0 where
  pub rising : RisesFrom 0 new
  pub same : update_in new w ≡ u
  pub others : (v : ℕ) → v ≢ w → update_in new v ≡ update_in old v

-- the pixels and the flag of the update are now the window's, and those of other windows are as before
pub record IsSettled (w : ℕ) (u : Dirty) (old new : List DirtyWindow) : Type 0 where
  pub rising : RisesFrom 0 new
  pub area : (p : Point) → region_has (area_in new w) p ≡ region_has u.area p
  pub erases : erases_in new w ≡ u.erases
  pub others : (v : ℕ) → v ≢ w → update_in new v ≡ update_in old v
