-- What is told of a window's painting, where the table of windows and the screen are those of the past.
use Rattle.std.proofs.Common.{◌≡◌, ◌∙◌, ℕ, Bool, true, false, eqb, List, Option, Some, None, refl, sym, ap, subst}
use Rattle.std.specs.Prelude.{◌&&◌, ◌||◌, IsTrue, is_some, option_map}
use Rattle.win_num.specs.declared.message.Hwnd.{Hwnd}
use Rattle.win_num.specs.declared.shapes.Point.{Point}
use Rattle.win_num.specs.declared.shapes.Rect.{Rect}
use Rattle.win_num.specs.PixelSets.{has_pixel}
use Rattle.win_rows.specs.Windows as kept
use Rattle.win_rows.specs.Windows.{Windows, number_of, window_of}
use Rattle.user_model.specs.declared.entry.Setup.{Setup}
use Rattle.user_model.specs.Past.{Past}
use Rattle.user_model.specs.Windows.{is_live}
use Rattle.user_model.specs.Dirty.{must_erase}
use Rattle.user_model.specs.Painting.{is_painting}
use Rattle.user_model.specs.Pixels.{owner, screen}
use Rattle.dirty_windows.specs.LookUps.{erases_in}
use Rattle.paint_sessions.specs.LookUps.{is_begun}
use Rattle.screen_owners.specs.Owners.{entry_of, owned_region}
use Rattle.screen_state.specs.Owned.{told_has}
use Rattle.screen_state.specs.Screens.{IsScreenAt, Kept}
use Rattle.screen_state.proofs.Followed.{region_told}
use Rattle.display_state.specs.Displays.{IsDisplayAt, Shown}
use Rattle.window_state.specs.Trees.{IsTreeAt}
use Rattle.window_state.proofs.Lookups.{none_found, number_found}
use Rattle.window_state.proofs.TreeFacts.{is_live_at}

-- a window that is found is live
pub found_lives : (past : Past) (t : Windows) (w : ℕ) (window : Hwnd) → IsTreeAt past t → Some window ≡ option_map number_of (window_of t.live w) → is_live past w ≡ true
found_lives past t w window at found = is_live_at past t at w ∙ sym (ap is_some found ∙ number_found (window_of t.live w))

-- and one that isn't is not
pub missed_lives : (past : Past) (t : Windows) (w : ℕ) → IsTreeAt past t → None ≡ option_map number_of (window_of t.live w) → is_live past w ≡ false
missed_lives past t w at missed = is_live_at past t at w ∙ ap is_some (none_found t.live w missed)

-- whether a window that is found is being painted
pub painting_found : (setup : Setup) (past : Past) (t : Windows) (k : Kept) (w : ℕ) (window : Hwnd) → IsTreeAt past t → IsScreenAt setup past k → Some window ≡ option_map number_of (window_of t.live w) → window.0 ≡ w → is_begun k.sessions window.0 ≡ (is_live past w && is_painting past w)
painting_found setup past t k w window at seen found same =
    let lives = found_lives past t w window at found in
    ap (is_begun k.sessions) same ∙ seen.painting w ∙ sym (ap (λ b. b && is_painting past w) lives)

-- whether its background is to be erased
pub erases_found : (setup : Setup) (past : Past) (t : Windows) (k : Kept) (w : ℕ) (window : Hwnd) → IsTreeAt past t → IsScreenAt setup past k → Some window ≡ option_map number_of (window_of t.live w) → window.0 ≡ w → erases_in k.dirty window.0 ≡ (is_live past w && must_erase setup past w)
erases_found setup past t k w window at seen found same =
    let lives = found_lives past t w window at found in
    ap (erases_in k.dirty) same ∙ seen.erases w lives ∙ sym (ap (λ b. b && must_erase setup past w) lives)

-- the pixels that a window owns, where there is a region of them
pub owned_told : (setup : Setup) (past : Past) (k : Kept) (w : Hwnd) (o : Option (List Rect)) (p : Point) → IsScreenAt setup past k → o ≡ option_map owned_region (entry_of k.owners w.0) → told_has o p ≡ (has_pixel (screen setup) p && eqb (owner setup past p).0 w.0)
owned_told setup past k w o p seen is = ap (λ q. told_has q p) is ∙ region_told k.owners w.0 p ∙ seen.owners w p

-- the screen that is told of a display
pub screen_told : (setup : Setup) (past : Past) (d : Shown) (k : Kept) → k ≡ d.screen → IsDisplayAt setup past d → IsScreenAt setup past k
screen_told setup past d k is at = subst (IsScreenAt setup past) (sym is) at.screen

-- a window that isn't found has neither
pub none_told : (past : Past) (t : Windows) (w : ℕ) (b : Bool) → IsTreeAt past t → None ≡ option_map number_of (window_of t.live w) → false ≡ (is_live past w && b)
none_told past t w b at missed = sym (ap (λ lives. lives && b) (missed_lives past t w at missed))

or_true : (b : Bool) → (b || true) ≡ true
or_true true = refl
or_true false = refl

-- a live window is one of the table
pub live_found : (past : Past) (t : Windows) (w : ℕ) → IsTreeAt past t → is_live past w ≡ true → IsTrue (eqb w 0 || kept.is_live t.live w)
live_found past t w at lives = ap (λ b. eqb w 0 || b) (sym (is_live_at past t at w) ∙ lives) ∙ or_true (eqb w 0)
