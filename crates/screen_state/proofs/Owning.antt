-- What the regions of a past say of who owns a pixel.
use Rattle.std.proofs.Common.{◌≡◌, ◌≢◌, ◌∙◌, ℕ, Bool, true, false, not, eqb, List, refl, sym, ap}
use Rattle.std.specs.Prelude.{◌&&◌}
use Rattle.std.proofs.lemmas.Bool.{eqb-true, eqb-false, false≢true, false_from_ne_true}
use Rattle.win_num.specs.declared.shapes.Point.{Point}
use Rattle.win_num.specs.PixelSets.{has_pixel}
use Rattle.band_region.specs.Regions.{region_has}
use Rattle.user_model.specs.declared.entry.Setup.{Setup}
use Rattle.user_model.specs.Past.{Past}
use Rattle.user_model.specs.Legal.{IsLawful}
use Rattle.user_model.specs.Windows.{is_live}
use Rattle.user_model.specs.ZOrder.{hwnd}
use Rattle.user_model.specs.Pixels.{owner, screen}
use Rattle.user_model.specs.Dirty.{is_dirty, owns}
use Rattle.user_model.proofs.DirtyOwners.{dirty_owned}
use Rattle.window_state.proofs.PixelLaws.{owner_has}
use Rattle.screen_owners.specs.declared.owners.Owned.{Owned}
use Rattle.screen_owners.specs.Owners.{region_in}
use Rattle.screen_state.specs.Owned.{AreOwnersAt}

-- a window is live, and the pixel is one of the screen
pub record Stands (setup : Setup) (past : Past) (w : ℕ) (p : Point) : Type 0 where
  pub lives : is_live past w ≡ true
  pub on : has_pixel (screen setup) p ≡ true

module _ (setup : Setup) (past : Past) (lawful : IsLawful setup past) where
  owner_stands : (w : ℕ) (p : Point) → w ≢ 0 → (owner setup past p).0 ≡ w → Stands setup past w p
  owner_stands w p some is =
      let has = owner_has setup past p lawful (λ (none : (owner setup past p).0 ≡ 0). some (sym is ∙ none)) in
      record { lives = ap (is_live past) (sym is) ∙ has.0.0; on = has.1 }

  -- so are those that own a pixel, and the pixel
  pub owner_stands_there : (w : ℕ) (p : Point) → owns setup past w p ≡ true → Stands setup past w p
  owner_stands_there w p own = by (eqb w 0) refl (eqb (owner setup past p).0 w) refl own
    where
      by : (zero : Bool) → eqb w 0 ≡ zero → (is : Bool) → eqb (owner setup past p).0 w ≡ is → (not zero && is) ≡ true → Stands setup past w p
      by true z is k h = absurd (false≢true h)
      by false z true k h = owner_stands w p (eqb-false w 0 z) (eqb-true (owner setup past p).0 w k)
      by false z false k h = absurd (false≢true h)

  -- a window that isn't live owns none
  pub dead_owns : (w : ℕ) (p : Point) → is_live past w ≡ false → owns setup past w p ≡ false
  dead_owns w p dead = false_from_ne_true (owns setup past w p) (λ own. false≢true (sym dead ∙ (owner_stands_there w p own).lives))

  -- so none is dirty for it
  pub dead_clean : (w : ℕ) (p : Point) → is_live past w ≡ false → is_dirty setup past w p ≡ false
  dead_clean w p dead = false_from_ne_true (is_dirty setup past w p) (λ is. false≢true (sym (dead_owns w p dead) ∙ dirty_owned setup past w p is))

  -- the regions have the pixels that a window owns
  pub region_owns : (os : List Owned) → AreOwnersAt setup past os → (w : ℕ) (p : Point) → (not (eqb w 0) && region_has (region_in os w) p) ≡ owns setup past w p
  region_owns os own w p = ap (λ b. not (eqb w 0) && b) (own (hwnd w) p) ∙ by (eqb w 0) refl (has_pixel (screen setup) p) refl (eqb (owner setup past p).0 w) refl
    where
      by : (zero : Bool) → eqb w 0 ≡ zero → (on : Bool) → has_pixel (screen setup) p ≡ on → (is : Bool) → eqb (owner setup past p).0 w ≡ is → (not zero && (on && is)) ≡ (not zero && is)
      by true z on j is k = refl
      by false z true j is k = refl
      by false z false j true k = absurd (false≢true (sym j ∙ (owner_stands w p (eqb-false w 0 z) (eqb-true (owner setup past p).0 w k)).on))
      by false z false j false k = refl
