-- Which pixels each window owns at a past.
use Rattle.std.specs.Prelude.{◌≡◌, ◌==◌, Bool, false, ◌&&◌, ◌||◌, not, List, ◌∷◌, Option, Some, None}
use Rattle.std.specs.List.{list_all}
use Rattle.win_num.specs.declared.message.Hwnd.{Hwnd}
use Rattle.win_num.specs.declared.shapes.Point.{Point}
use Rattle.win_num.specs.declared.shapes.Rect.{Rect}
use Rattle.win_num.specs.PixelSets.{has_pixel}
use Rattle.win_rows.specs.Windows.{Windows}
use Rattle.win_order.specs.Layers.{Layers}
use Rattle.band_region.specs.Regions.{region_has}
use Rattle.user_model.specs.declared.call.Call.{Call}
use Rattle.user_model.specs.declared.entry.Answer.{Answer}
use Rattle.user_model.specs.declared.entry.Entry.{Entry}
use Rattle.user_model.specs.declared.entry.Setup.{Setup}
use Rattle.user_model.specs.Past.{Past}
use Rattle.user_model.specs.Idle.{reply}
use Rattle.user_model.specs.Legal.{IsLawful}
use Rattle.user_model.specs.Pixels.{owner, screen}
use Rattle.window_state.specs.Orders.{IsOrderAt}
use Rattle.window_state.specs.Trees.{IsTreeAt}
use Rattle.screen_owners.specs.declared.owners.Owned.{Owned}
use Rattle.screen_owners.specs.Owners.{region_in}
use Rattle.screen_state.specs.Shown.{changes_owners, shows}

-- the region of each window has the pixels of the screen that it owns, and that of 0 those that no window owns
abbrev pub AreOwnersAt : Setup → Past → List Owned → Type 0
AreOwnersAt setup past os = (w : Hwnd) (p : Point) → region_has (region_in os w.0) p ≡ (has_pixel (screen setup) p && ((owner setup past p).0 == w.0))

-- whether a region, if there is one, has the pixel
abbrev pub told_has : Option (List Rect) → Point → Bool
told_has o p = elim o [ None ↦ false | Some rs ↦ region_has rs p ]

-- the entry comes next after a lawful past that has made this table and this order
pub record IsNext (setup : Setup) (t : Windows) (z : Layers) (e : Entry) : Type 0 where
  pub past : Past
  pub lawful : IsLawful setup past
  pub tree : IsTreeAt past t
  pub order : IsOrderAt past z
  pub right : e.answer ≡ reply setup past e.who.0 e.call

-- where the old regions are those of a past that has made this table and this order, the new ones are those with the entry
abbrev pub FollowsOwners : Setup → Windows → Layers → Entry → List Owned → List Owned → Type 0
FollowsOwners setup t z e old new = (past : Past) → IsLawful setup past → IsTreeAt past t → IsOrderAt past z → e.answer ≡ reply setup past e.who.0 e.call → AreOwnersAt setup past old → AreOwnersAt setup (e ∷ past) new

-- whether the regions surely stay: an entry can't change them, or no window has a region and the entry shows none
abbrev pub keeps_owners : Call → Answer → List Owned → Bool
keeps_owners call a os = not (changes_owners call a) || (not (shows call a) && list_all (λ o. o.window.0 == 0) os)
