-- The pixels of a rectangle that is given from a window's left top corner.
use Rattle.std.specs.Prelude.{◌≡◌, ℕ, true, ℤ, pos, negsuc, ◌≤ℤ◌, List}
use Rattle.win_num.specs.declared.shapes.Point.{Point}
use Rattle.win_num.specs.declared.shapes.Rect.{Rect}
use Rattle.win_rows.specs.Windows.{Windows}
use Rattle.band_region.specs.Regions.{region_has}
use Rattle.user_model.specs.declared.entry.Setup.{Setup}
use Rattle.user_model.specs.Past.{Past}
use Rattle.user_model.specs.Legal.{IsLawful}
use Rattle.user_model.specs.Windows.{is_live}
use Rattle.user_model.specs.Dirty.{is_in_client}
use Rattle.window_state.specs.Trees.{IsTreeAt}

-- at each past that has made the table, the region has the pixels of the rectangle that is given from w's left top corner
abbrev pub IsClientPart : Windows → ℕ → ℤ → ℤ → ℤ → ℤ → List Rect → Type 0
IsClientPart t w l top r b rs = (setup : Setup) (past : Past) → IsLawful setup past → IsTreeAt past t → is_live past w ≡ true → (p : Point) → region_has rs p ≡ is_in_client past w l top r b p

-- a lawful past has made the table, and w is live
pub record IsLiveAt (t : Windows) (w : ℕ) : Type 0 where
  pub setup : Setup
  pub past : Past
  pub lawful : IsLawful setup past
  pub tree : IsTreeAt past t
  pub lives : is_live past w ≡ true

-- a corner that is no further away than live windows reach
pub record IsNear (p : Point) : Type 0 where
  pub left : negsuc 4194303 ≤ℤ p.x
  pub right : p.x ≤ℤ pos 4194304
  pub above : negsuc 4194303 ≤ℤ p.y
  pub below : p.y ≤ℤ pos 4194304
