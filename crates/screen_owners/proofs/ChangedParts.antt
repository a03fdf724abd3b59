-- Which windows have changed, and which pixels keep their owners.
use Rattle.std.proofs.Common.{◌≡◌, ◌⊎◌, inl, inr, ℕ, ◌+◌, ◌<◌, Bool, true, false, cond, eqb, List, [], ◌∷◌, ◌++◌, length, map, take, get_or, Option, Some, None, refl, ap, ◌∙◌, sym, subst}
use Rattle.std.specs.Prelude.{◌&&◌, ◌||◌, is_some}
use Rattle.std.proofs.lemmas.Bool.{eqb-true, eqb-false, false≢true, true≢false}
use Rattle.std.proofs.lemmas.List.Folds.{list_any-append}
use Rattle.win_num.specs.declared.message.Hwnd.{Hwnd}
use Rattle.win_num.specs.declared.names.TheConstants.{WS_VISIBLE}
use Rattle.win_num.specs.declared.shapes.Point.{Point}
use Rattle.win_num.specs.declared.shapes.Rect.{Rect}
use Rattle.win_order.specs.Layers.{Layers, siblings_of}
use Rattle.win_rows.specs.declared.window.Window.{Window}
use Rattle.win_rows.specs.Windows.{IsOrdered, is_live, number_of, window_of}
use Rattle.band_region.specs.Regions.{region_has}
use Rattle.user_model.specs.Windows.{has_flag}
use Rattle.user_model.specs.ZOrder.{hwnd}
use Rattle.window_state.specs.Pixels.{owner_in}
use Rattle.screen_owners.specs.declared.owners.Owned.{Owned}
use Rattle.screen_owners.specs.declared.screen.Part.{Part}
use Rattle.screen_owners.specs.declared.screen.Screen.{Screen}
use Rattle.screen_owners.specs.Owners.{is_on_screen, AreChildren, AreOwners, AreOwnersIn, AreOwnersOutside}
use Rattle.screen_owners.specs.Shares.{is_one_of}
use Rattle.screen_owners.specs.Shown.{others, shown_place, HasWays, Keeps, KeepsOutside, ListsSame, ListsSameOf, LookSame, ShowsSamePlaces}
use Rattle.screen_owners.proofs.CornerLaws.{one_more}
use Rattle.screen_owners.proofs.Shared.{live_among}
use Rattle.screen_owners.proofs.Unchanged.{owner_kept}

-- ---- the windows that don't look the same

first_false : (a b : Bool) → (a || b) ≡ false → (a ≡ false) × (b ≡ false)
first_false true b h = absurd (true≢false h)
first_false false b h = (refl, h)

-- of a list with one more
pub pushed : (hs : List Hwnd) (w v : Hwnd) → is_one_of (hs ++ w ∷ []) v ≡ (is_one_of hs v || eqb w.0 v.0)
pushed hs w v = list_any-append (λ (u : Hwnd). eqb u.0 v.0) hs (w ∷ []) ∙ ap (λ b. is_one_of hs v || b) (or_none (eqb w.0 v.0))
  where
    or_none : (a : Bool) → (a || false) ≡ a
    or_none true = refl
    or_none false = refl

pub keeps_push : (hs ks : List Hwnd) (w : Hwnd) → ks ≡ hs ++ w ∷ [] → Keeps hs ks
keeps_push hs ks w same v none = (first_false (is_one_of hs v) (eqb w.0 v.0) (sym (pushed hs w v) ∙ (ap (λ xs. is_one_of xs v) (sym same) ∙ none))).0

-- a window that was put there is one of them
pub push_looks : (hs ks : List Hwnd) (w : Hwnd) (P : Type 0) → ks ≡ hs ++ w ∷ [] → is_one_of ks w ≡ false → P
push_looks hs ks w P same none = absurd (eqb-false w.0 w.0 (first_false (is_one_of hs w) (eqb w.0 w.0) (sym (pushed hs w w) ∙ (ap (λ xs. is_one_of xs w) (sym same) ∙ none))).1 refl)

pub keeps_more : (old hs ks : List Hwnd) → Keeps hs ks → Keeps old hs → Keeps old ks
keeps_more old hs ks more keeps v none = keeps v (more v none)

-- one window more
pub looked_more : (ws us : List Window) (vs hs ks : List Hwnd) (i : ℕ) (w : Hwnd) → i < length vs → w ≡ get_or vs i w → Keeps hs ks → (is_one_of ks w ≡ false → shown_place ws w.0 ≡ shown_place us w.0) → LookSame ws us (take i vs) hs → LookSame ws us (take (i + 1) vs) ks
looked_more ws us vs hs ks i w within at more same look v any none = pick (one_more vs i w v within at any)
  where
    pick : (is_one_of (take i vs) v ≡ true) ⊎ (v ≡ w) → shown_place ws v.0 ≡ shown_place us v.0
    pick (inl k) = look v k (more v none)
    pick (inr e) = subst (λ (u : Hwnd). shown_place ws u.0 ≡ shown_place us u.0) (sym e) (same (ap (is_one_of ks) (sym e) ∙ none))

pub none_looked : (ws us : List Window) (hs : List Hwnd) → LookSame ws us [] hs
none_looked ws us hs v any = absurd (false≢true any)

-- the place of a window that may be there
abbrev place_or : Option Window → Option Rect
place_or o = elim o [ None ↦ None | Some x ↦ cond (has_flag x.row.style WS_VISIBLE) (Some x.row.place) None ]

-- a window that is live in neither table looks the same
pub all_looked : (ws us : List Window) (ks ls : List Hwnd) → Keeps ks ls → LookSame ws us (map number_of ws) ks → LookSame ws us (map number_of us) ls → ShowsSamePlaces ls ws us
all_looked ws us ks ls keeps old new v none = pick (window_of ws v.0) refl (window_of us v.0) refl
  where
    pick : (o : Option Window) → window_of ws v.0 ≡ o → (n : Option Window) → window_of us v.0 ≡ n → shown_place ws v.0 ≡ shown_place us v.0
    pick (Some x) e n f = old v (live_among ws v.0 x e) (keeps v none)
    pick None e (Some x) f = new v (live_among us v.0 x f) none
    pick None e None f = ap place_or e ∙ sym (ap place_or f)

-- ---- the lists of siblings

pub no_lists : (hs : List Hwnd) (z y : Layers) → ListsSameOf hs z y []
no_lists hs z y v any = absurd (false≢true any)

pub more_lists : (hs : List Hwnd) (z y : Layers) (vs : List Hwnd) (i : ℕ) (w : Hwnd) → i < length vs → w ≡ get_or vs i w → others hs (siblings_of w.0 z) ≡ others hs (siblings_of w.0 y) → ListsSameOf hs z y (take i vs) → ListsSameOf hs z y (take (i + 1) vs)
more_lists hs z y vs i w within at same lists v any = pick (one_more vs i w v within at any)
  where
    pick : (is_one_of (take i vs) v ≡ true) ⊎ (v ≡ w) → others hs (siblings_of v.0 z) ≡ others hs (siblings_of v.0 y)
    pick (inl k) = lists v k
    pick (inr e) = subst (λ (u : Hwnd). others hs (siblings_of u.0 z) ≡ others hs (siblings_of u.0 y)) (sym e) same

pub all_lists : (hs : List Hwnd) (z : Layers) (us : List Window) (y : Layers) (vs : List Hwnd) → vs ≡ map number_of us → others hs (siblings_of 0 z) ≡ others hs (siblings_of 0 y) → ListsSameOf hs z y vs → ListsSame hs z us y
all_lists hs z us y vs numbers first lists w here = pick (eqb w 0) refl here
  where
    among : (o : Option Window) → window_of us w ≡ o → is_some o ≡ true → is_one_of vs (hwnd w) ≡ true
    among None e h = absurd (false≢true h)
    among (Some x) e h = ap (λ xs. is_one_of xs (hwnd w)) numbers ∙ live_among us w x e

    pick : (b : Bool) → eqb w 0 ≡ b → (b || is_live us w) ≡ true → others hs (siblings_of w z) ≡ others hs (siblings_of w y)
    pick true e h = subst (λ n. others hs (siblings_of n z) ≡ others hs (siblings_of n y)) (sym (eqb-true w 0 e)) first
    pick false e h = lists (hwnd w) (among (window_of us w) refl h)

-- ---- the part of the screen

-- the whole screen has no pixel outside
pub whole_keeps : (ws : List Window) (z : Layers) (us : List Window) (y : Layers) (part : Part) (screen : Screen) → part.screen ≡ screen → ((p : Point) → region_has part.region p ≡ is_on_screen screen.width screen.height p) → KeepsOutside ws z us y part
whole_keeps ws z us y part screen same whole p on out = absurd (true≢false (sym on ∙ (ap (λ (s : Screen). is_on_screen s.width s.height p) same ∙ (sym (whole p) ∙ out))))

-- outside of the boxes of all changed windows each pixel keeps its owner
pub boxes_keep : (hs : List Hwnd) (ws : List Window) (z : Layers) (last : ℕ) (us : List Window) (y : Layers) (newer : ℕ) (part : Part) → IsOrdered 15 last ws → AreChildren ws z → IsOrdered 15 newer us → AreChildren us y → ShowsSamePlaces hs ws us → ListsSame hs z us y →
    HasWays ws part.screen.width part.screen.height hs part.region → HasWays us part.screen.width part.screen.height hs part.region → KeepsOutside ws z us y part
boxes_keep hs ws z last us y newer part ordered children ordered' children' places lists before after p on out =
    owner_kept hs ws z last us y newer ordered children ordered' children' places lists p
    (λ h q any some d. absurd (true≢false (sym (before z children h p q any on some d) ∙ out)))
    (λ h q any some d. absurd (true≢false (sym (after y children' h p q any on some d) ∙ out)))
    part.screen.width part.screen.height

-- ---- regions of the part

-- regions of all of the screen
pub whole_owners : (ws : List Window) (z : Layers) (part : Part) (screen : Screen) (os : List Owned) → part.screen ≡ screen → ((p : Point) → region_has part.region p ≡ is_on_screen screen.width screen.height p) → AreOwnersIn ws z part os → AreOwners ws z screen.width screen.height os
whole_owners ws z part screen os same whole own w p =
    own w p
    ∙ (ap (λ (s : Screen). (is_on_screen s.width s.height p && region_has part.region p) && eqb (owner_in ws z s.width s.height p).0 w.0) same
    ∙ (ap (λ b. (is_on_screen screen.width screen.height p && b) && eqb (owner_in ws z screen.width screen.height p).0 w.0) (whole p)
    ∙ twice (is_on_screen screen.width screen.height p) (eqb (owner_in ws z screen.width screen.height p).0 w.0)))
  where
    twice : (a e : Bool) → ((a && a) && e) ≡ (a && e)
    twice true e = refl
    twice false e = refl

-- regions of the old tables, where pixels outside of the part keep their owners
pub outside_kept : (ws : List Window) (z : Layers) (us : List Window) (y : Layers) (part : Part) (os : List Owned) → KeepsOutside ws z us y part → AreOwners ws z part.screen.width part.screen.height os → AreOwnersOutside us y part os
outside_kept ws z us y part os keeps own w p out = own w p ∙ pick (is_on_screen part.screen.width part.screen.height p) refl
  where
    pick : (b : Bool) → is_on_screen part.screen.width part.screen.height p ≡ b → (b && eqb (owner_in ws z part.screen.width part.screen.height p).0 w.0) ≡ (b && eqb (owner_in us y part.screen.width part.screen.height p).0 w.0)
    pick true on = ap (λ (u : Hwnd). eqb u.0 w.0) (sym (keeps p on out))
    pick false on = refl
