-- The dirty pixels that are kept, as the past has them.
use Rattle.std.proofs.Common.{◌≡◌, ℕ, Bool, true, false, cond, not, eqb, List, [], ◌∷◌, length, filter, Option, Some, None, refl, ap, ◌∙◌, sym}
use Rattle.std.specs.Prelude.{◌&&◌, option_map}
use Rattle.std.proofs.lemmas.Bool.{eqb-false, eqb-true}
use Rattle.win_num.specs.declared.message.Hwnd.{Hwnd}
use Rattle.win_num.specs.declared.shapes.Point.{Point}
use Rattle.win_num.specs.declared.shapes.Rect.{Rect}
use Rattle.win_num.specs.PixelSets.{has_pixel, kind_of}
use Rattle.band_region.specs.Regions.{region_has}
use Rattle.region_box.specs.Screens.{screen_points, IsPassing}
use Rattle.user_model.specs.declared.entry.Setup.{Setup}
use Rattle.user_model.specs.Past.{Past}
use Rattle.user_model.specs.Windows.{live}
use Rattle.user_model.specs.ZOrder.{hwnd}
use Rattle.user_model.specs.Pixels.{deepest, screen}
use Rattle.user_model.specs.Dirty.{dirty_pixels, has_dirty, has_some, is_dirty}
use Rattle.user_model.proofs.DirtyOwners.{dirty_owned}
use Rattle.dirty_windows.specs.declared.entries.DirtyWindow.{DirtyWindow}
use Rattle.dirty_windows.specs.LookUps.{area_in, entry_area, entry_of, update_in_entry}
use Rattle.screen_state.specs.Walks.{AreDirtyAt}

-- ---- the area of a window

pub area_found : (ds : List DirtyWindow) (w : ℕ) (rs : List Rect) → Some rs ≡ option_map entry_area (entry_of ds w) → rs ≡ area_in ds w
area_found ds w rs e = pick (entry_of ds w) e
  where
    pick : (o : Option DirtyWindow) → Some rs ≡ option_map entry_area o → rs ≡ (update_in_entry o).area
    pick None k = absurd cc
    pick (Some d) k = cc

pub area_none : (ds : List DirtyWindow) (w : ℕ) → None ≡ option_map entry_area (entry_of ds w) → area_in ds w ≡ []
area_none ds w e = pick (entry_of ds w) e
  where
    pick : (o : Option DirtyWindow) → None ≡ option_map entry_area o → (update_in_entry o).area ≡ []
    pick None k = refl
    pick (Some d) k = absurd cc

-- ---- dirty pixels are on the screen

on_screen : (setup : Setup) (past : Past) (w : ℕ) (p : Point) → is_dirty setup past w p ≡ (has_pixel (screen setup) p && is_dirty setup past w p)
on_screen setup past w p = pick (is_dirty setup past w p) (has_pixel (screen setup) p) (λ is. owned_on (has_pixel (screen setup) p) (deepest (length (live past)) past p (hwnd 0)) (dirty_owned setup past w p is))
  where
    pick : (dirt on : Bool) → (dirt ≡ true → on ≡ true) → dirt ≡ (on && dirt)
    pick true on h = sym (ap (λ b. b && true) (h refl))
    pick false true h = refl
    pick false false h = refl

    -- window 0 owns no pixel
    nobody : (b : Bool) → eqb w 0 ≡ b → (not b && eqb 0 w) ≡ true → false ≡ true
    nobody true k is = is
    nobody false k is = absurd (eqb-false w 0 k (sym (eqb-true 0 w is)))

    owned_on : (on : Bool) (d : Hwnd) → (not (eqb w 0) && eqb (cond on d (hwnd 0)).0 w) ≡ true → on ≡ true
    owned_on true d is = refl
    owned_on false d is = nobody (eqb w 0) refl is

pub passing : (setup : Setup) (past : Past) (ds : List DirtyWindow) (w : ℕ) → AreDirtyAt setup past ds → IsPassing setup.width setup.height (is_dirty setup past w) (area_in ds w)
passing setup past ds w at p = at w p ∙ on_screen setup past w p

-- ---- whether there is one

none_pass : (test : Point → Bool) (ps : List Point) → ((p : Point) → test p ≡ false) → filter test ps ≡ []
none_pass test [] h = refl
none_pass test (p ∷ ps) h = ap (λ b. cond b (p ∷ filter test ps) (filter test ps)) (h p) ∙ none_pass test ps h

pub clean_pixels : (setup : Setup) (past : Past) (w : ℕ) → ((p : Point) → is_dirty setup past w p ≡ false) → dirty_pixels setup past w ≡ []
clean_pixels setup past w h = none_pass (is_dirty setup past w) (screen_points setup.width setup.height) h

pub none_dirty : (setup : Setup) (past : Past) (w : ℕ) → ((p : Point) → is_dirty setup past w p ≡ false) → has_dirty setup past w ≡ false
none_dirty setup past w h = ap has_some (clean_pixels setup past w h)

-- where the area is empty, no pixel is dirty
pub area_clean : (setup : Setup) (past : Past) (ds : List DirtyWindow) (w : ℕ) → AreDirtyAt setup past ds → area_in ds w ≡ [] → (p : Point) → is_dirty setup past w p ≡ false
area_clean setup past ds w at none p = sym (at w p) ∙ ap (λ rs. region_has rs p) none

two_or_three : (b : Bool) → not (eqb (cond b 2 3) 1) ≡ true
two_or_three true = refl
two_or_three false = refl

-- the kind tells it
pub kind_some : (ps : List Point) → not (eqb (kind_of ps) 1) ≡ has_some ps
kind_some [] = refl
kind_some (p ∷ ps) = two_or_three _
