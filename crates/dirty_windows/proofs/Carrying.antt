-- What windows that are moved carry, one after the other.
use Rattle.std.proofs.Common.{◌≡◌, ℕ, ◌+◌, ◌<◌, ◌≤◌, Bool, true, false, not, eqb, List, [], length, take, get_or, refl, ap, ◌∙◌, sym, arith}
use Rattle.std.specs.Prelude.{◌&&◌, ◌||◌, ℤ, pos, ◌-ℤ◌, ◌≤ℤ◌, ◌<ℤ◌}
use Rattle.std.proofs.lemmas.Int.{ints}
use Rattle.std.proofs.lemmas.List.{take_all}
use Rattle.std.proofs.lemmas.List.Folds.{list_any_more}
use Rattle.win_num.specs.declared.message.Hwnd.{Hwnd}
use Rattle.win_num.specs.declared.shapes.Point.{Point}
use Rattle.win_num.specs.declared.shapes.Rect.{Rect}
use Rattle.win_num.specs.PixelSets.{box}
use Rattle.band_region.specs.Regions.{moved_back, plane, region_has, StaysInPlane}
use Rattle.band_region.proofs.Pixels.{at_from_has, has_from_at}
use Rattle.screen_owners.specs.declared.owners.Owned.{Owned}
use Rattle.screen_owners.specs.declared.screen.Screen.{Screen}
use Rattle.screen_owners.specs.Owners.{is_on_screen, region_in}
use Rattle.screen_owners.proofs.Cuts.{both_true}
use Rattle.dirty_windows.specs.declared.carry.Shift.{Shift}
use Rattle.dirty_windows.specs.declared.entries.DirtyWindow.{DirtyWindow}
use Rattle.dirty_windows.specs.LookUps.{area_in}
use Rattle.dirty_windows.specs.Carrying.{brings, brings_any, is_clean_in, source}

-- pixels of the screen stay near
pub stays_near : (rs ss : List Rect) (width height : ℕ) (dx dy : ℤ) → width < 65536 → height < 65536 → (pos 0 -ℤ pos 65535) ≤ℤ dx → dx ≤ℤ pos 65535 → (pos 0 -ℤ pos 65535) ≤ℤ dy → dy ≤ℤ pos 65535 → ((p : Point) → region_has rs p ≡ (region_has ss p && is_on_screen width height p)) → StaysInPlane rs dx dy
stays_near rs ss width height dx dy w h west east north south is p t =
    let q = moved_back dx dy p in
    let at = at_from_has (box (pos 0) (pos 0) (pos width) (pos height)) q (both_true (region_has ss q) (is_on_screen width height q) (sym (is q) ∙ t)).1 in
    let l : pos 0 ≤ℤ (p.x -ℤ dx) = at.left in
    let n : pos 0 ≤ℤ (p.y -ℤ dy) = at.top in
    let u : (p.x -ℤ dx) <ℤ pos width = at.right in
    let d : (p.y -ℤ dy) <ℤ pos height = at.bottom in
    has_from_at plane p (record {
      left = omega (arith, ints, l, west, east);
      right = omega (arith, ints, u, w, west, east);
      top = omega (arith, ints, n, north, south);
      bottom = omega (arith, ints, d, h, north, south);
    })

and_none : (a : Bool) → (a && false) ≡ false
and_none true = refl
and_none false = refl

-- a window that owns nothing now, or owned nothing, carries nothing
pub brings_nowhere : (new : List Owned) (w : ℕ) (p : Point) (from on : Bool) → [] ≡ region_in new w → false ≡ (from && (region_has (region_in new w) p && on))
brings_nowhere new w p from on e = sym (and_none from) ∙ ap (λ (r : List Rect). from && (region_has r p && on)) e

module _ (ds : List DirtyWindow) (old new : List Owned) (screen : Screen) (s : Shift) where
  -- the screen carries nothing
  pub brings_of_screen : (w : ℕ) (p : Point) → eqb w 0 ≡ true → false ≡ brings ds old new screen s w p
  brings_of_screen w p e = sym (ap (λ b. not b && ((is_clean_in ds old w (source s p) && is_on_screen screen.width screen.height (source s p)) && (region_has (region_in new w) p && is_on_screen screen.width screen.height p))) e)

  pub brings_from_nowhere : (w : ℕ) (p : Point) → [] ≡ region_in old w → false ≡ brings ds old new screen s w p
  brings_from_nowhere w p e = sym (and_none (not (eqb w 0))) ∙ ap (λ (r : List Rect). not (eqb w 0) && (((region_has r (source s p) && not (region_has (area_in ds w) (source s p))) && is_on_screen screen.width screen.height (source s p)) && (region_has (region_in new w) p && is_on_screen screen.width screen.height p))) e

  -- any other carries what comes
  pub brings_for : (w : ℕ) (p : Point) (r : List Rect) → eqb w 0 ≡ false → r ≡ region_in old w → (((region_has r (source s p) && not (region_has (area_in ds w) (source s p))) && is_on_screen screen.width screen.height (source s p)) && (region_has (region_in new w) p && is_on_screen screen.width screen.height p)) ≡ brings ds old new screen s w p
  brings_for w p r some e =
      let rest : List Rect → Bool = λ r. ((region_has r (source s p) && not (region_has (area_in ds w) (source s p))) && is_on_screen screen.width screen.height (source s p)) && (region_has (region_in new w) p && is_on_screen screen.width screen.height p) in
      ap rest e ∙ sym (ap (λ b. not b && rest (region_in old w)) some)

  -- one window after others
  pub any_more : (moved : List Hwnd) (i : ℕ) (d : Hwnd) (all part more : List Rect) → i < length moved
      → ((p : Point) → region_has more p ≡ (region_has all p || region_has part p))
      → ((p : Point) → region_has part p ≡ brings ds old new screen s (get_or moved i d).0 p)
      → ((p : Point) → region_has all p ≡ brings_any ds old new screen s (take i moved) p)
      → (p : Point) → region_has more p ≡ brings_any ds old new screen s (take (i + 1) moved) p
  any_more moved i d all part more lt joined is before p =
      joined p
      ∙ (ap (λ b. b || region_has part p) (before p)
      ∙ (ap (λ b. brings_any ds old new screen s (take i moved) p || b) (is p)
      ∙ sym (list_any_more (λ (h : Hwnd). brings ds old new screen s h.0 p) moved i d lt)))

  pub any_all : (moved : List Hwnd) (i : ℕ) (all : List Rect) → length moved ≤ i → ((p : Point) → region_has all p ≡ brings_any ds old new screen s (take i moved) p) → (p : Point) → region_has all p ≡ brings_any ds old new screen s moved p
  any_all moved i all le h p = h p ∙ ap (λ hs. brings_any ds old new screen s hs p) (take_all i moved le)
