-- What the calls on all windows promise, from what is done to the entries.
use Rattle.std.proofs.Common.{◌≡◌, ℕ, Bool, true, false, eqb, List, refl, ap, ◌∙◌, sym, subst}
use Rattle.std.specs.Prelude.{◌&&◌, ◌||◌, ◌↔◌, IsTrue, All}
use Rattle.std.proofs.lemmas.Bool.{eqb-true}
use Rattle.win_num.specs.declared.shapes.Point.{Point}
use Rattle.win_num.specs.declared.shapes.Rect.{Rect}
use Rattle.band_region.specs.Regions.{region_has}
use Rattle.screen_owners.specs.declared.owners.Owned.{Owned}
use Rattle.screen_owners.specs.Owners.{region_in}
use Rattle.dirty_windows.specs.declared.entries.DirtyWindow.{DirtyWindow}
use Rattle.dirty_windows.specs.LookUps.{area_in, erases_in, AreKept, IsClean, RisesFrom}
use Rattle.dirty_windows.specs.Changes.{IsAdded}

-- what is kept beside entries that were walked over
pub kept_with : (ds es : List DirtyWindow) (clean : Bool) → RisesFrom 0 es → ds ≡ es → (IsTrue clean ↔ All IsClean ds) → AreKept es clean
kept_with ds es clean h e told = record { rising = h; told = subst (λ fs. IsTrue clean ↔ All IsClean fs) e told }

-- a part that is cut to what the window owns
pub invalid_area : (os : List Owned) (w : ℕ) (whole part : List Rect) (erase : Bool) (ds old es : List DirtyWindow) → ds ≡ old → ((p : Point) → region_has part p ≡ (region_has whole p && region_has (region_in os w) p)) → IsAdded w part erase ds es → (v : ℕ) (p : Point) → region_has (area_in es v) p ≡ (region_has (area_in old v) p || ((eqb w v) && (region_has whole p && region_has (region_in os v) p)))
invalid_area os w whole part erase ds old es e h a v p = a.area v p ∙ ap (λ b. region_has (area_in ds v) p || b) (pick (eqb w v) refl) ∙ ap (λ fs. region_has (area_in fs v) p || ((eqb w v) && (region_has whole p && region_has (region_in os v) p))) e
  where
    pick : (b : Bool) → eqb w v ≡ b → ((eqb w v) && region_has part p) ≡ ((eqb w v) && (region_has whole p && region_has (region_in os v) p))
    pick true k = ap (λ c. c && region_has part p) k ∙ h p ∙ ap (λ n. region_has whole p && region_has (region_in os n) p) (eqb-true w v k) ∙ sym (ap (λ c. c && (region_has whole p && region_has (region_in os v) p)) k)
    pick false k = ap (λ c. c && region_has part p) k ∙ sym (ap (λ c. c && (region_has whole p && region_has (region_in os v) p)) k)

pub invalid_erases : (w : ℕ) (part : List Rect) (erase : Bool) (ds old es : List DirtyWindow) → ds ≡ old → IsAdded w part erase ds es → (v : ℕ) → erases_in es v ≡ (erases_in old v || ((eqb w v) && erase))
invalid_erases w part erase ds old es e a v = a.erases v ∙ ap (λ fs. erases_in fs v || ((eqb w v) && erase)) e
