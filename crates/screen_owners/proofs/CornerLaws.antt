-- Corners of windows on the screen, from their ancestors' places.
use Rattle.std.proofs.Common.{◌≡◌, ◌≢◌, ◌⊎◌, inl, inr, ℕ, ◌+◌, ◌<◌, Bool, true, false, eqb, List, [], length, take, get_or, Option, Some, None, refl, ap, ◌∙◌, sym, subst, arith}
use Rattle.std.specs.Prelude.{◌||◌, ℤ, pos, ◌+ℤ◌, ◌-ℤ◌, option_map, reverse}
use Rattle.std.proofs.lemmas.Bool.{eqb-true, false≢true}
use Rattle.std.proofs.lemmas.Int.{ints}
use Rattle.std.proofs.lemmas.List.Folds.{list_any_more}
use Rattle.win_num.specs.declared.message.Hwnd.{Hwnd}
use Rattle.win_num.specs.declared.shapes.Point.{Point}
use Rattle.win_num.specs.declared.shapes.Rect.{Rect}
use Rattle.win_num.specs.PixelSets.{has_pixel}
use Rattle.win_num.specs.Rects.{box_in}
use Rattle.win_order.specs.Layers.{Layers, siblings_of}
use Rattle.win_rows.specs.declared.row.WindowRow.{WindowRow}
use Rattle.win_rows.specs.declared.window.Window.{Window}
use Rattle.win_rows.specs.Windows.{IsOrdered, nobody, window_of}
use Rattle.band_region.specs.Regions.{rect_has, region_has}
use Rattle.user_model.specs.Pixels.{point}
use Rattle.user_model.proofs.ListLaws.{all_found}
use Rattle.window_state.proofs.LookSteps.{row_is}
use Rattle.window_state.proofs.TreeFacts.{found_passes}
use Rattle.window_state.specs.Pixels.{covers_in, inside_of}
use Rattle.screen_owners.specs.declared.screen.Corner.{Corner}
use Rattle.screen_owners.specs.Owners.{is_on_screen, AreChildren}
use Rattle.screen_owners.specs.Shares.{is_one_of, part_has, seen_from, Passes}
use Rattle.screen_owners.specs.Shown.{HasWays, HasWaysTo, IsCornerOf}
use Rattle.screen_owners.proofs.Cuts.{same_window}
use Rattle.screen_owners.proofs.Ways.{at_child, came_from, each_older, older_than, step_of, CameFrom, IsOlder}

-- where the way down comes through w, it comes through the window above, at a point from which the corner brings to that of w
abbrev pub IsFrom : List Window → Hwnd → Hwnd → Corner → Type 0
IsFrom ws w above corner = (z : Layers) → AreChildren ws z → (p q : Point) → Passes ws z p w q → (r : Point) × Passes ws z p above r × (q ≡ seen_from corner r)

one_point : (a b c d : ℤ) → a ≡ c → b ≡ d → point a b ≡ point c d
one_point a b c d e f = cc

less_both : (x o l n : ℤ) → n ≡ o +ℤ l → (x -ℤ l) -ℤ o ≡ x -ℤ n
less_both x o l n e = omega (arith, ints, e)

not_moved : (corner : Corner) (q : Point) → corner.x ≡ pos 0 → corner.y ≡ pos 0 → q ≡ seen_from corner q
not_moved corner q x y = one_point q.x q.y (q.x -ℤ corner.x) (q.y -ℤ corner.y) (omega (arith, ints, x)) (omega (arith, ints, y))

-- it begins with the window itself
pub from_itself : (ws : List Window) (w : Hwnd) (corner : Corner) → corner.x ≡ pos 0 → corner.y ≡ pos 0 → IsFrom ws w w corner
from_itself ws w corner x y z children p q d = (q, d, not_moved corner q x y)

-- the point inside of a window, counted from a corner
moved_on : (ws : List Window) (above : Hwnd) (row : WindowRow) (old new : Corner) (at : Point) → Some row ≡ option_map (λ (x : Window). x.row) (window_of ws above.0) → new.x ≡ old.x +ℤ row.place.l → new.y ≡ old.y +ℤ row.place.t → seen_from old (inside_of ws at above) ≡ seen_from new at
moved_on ws above row old new at is x y =
    let found = row_is (window_of ws above.0) row is in
    ap (λ (o : Option Window). seen_from old (elim o as (λ _. Point) [ None ↦ at | Some v ↦ point (at.x -ℤ v.row.place.l) (at.y -ℤ v.row.place.t) ])) found.1
    ∙ ap (λ (r : WindowRow). seen_from old (point (at.x -ℤ r.place.l) (at.y -ℤ r.place.t))) found.2
    ∙ one_point _ _ _ _ (less_both at.x old.x row.place.l new.x x) (less_both at.y old.y row.place.t new.y y)

module _ (ws : List Window) (last : ℕ) (ordered : IsOrdered 15 last ws) where
  -- a parent has a lesser number
  pub parent_less : (w : Hwnd) (row : WindowRow) → Some row ≡ option_map (λ (x : Window). x.row) (window_of ws w.0) → row.parent.0 < w.0
  parent_less w row is =
      let found = row_is (window_of ws w.0) row is in
      let older = all_found (IsOlder 15) (λ y. eqb y.number.0 w.0) ws found.0 (each_older 15 last ws ordered) found.1 in
      let number : found.0.number.0 ≡ w.0 = eqb-true found.0.number.0 w.0 (found_passes (λ y. eqb y.number.0 w.0) ws found.0 found.1) in
      let parent : found.0.row.parent.0 ≡ row.parent.0 = ap (λ (r : WindowRow). r.parent.0) found.2 in
      omega (arith, older.parent, number, parent)

  -- one step up
  pub from_more : (w above : Hwnd) (row : WindowRow) (old new : Corner) → Some row ≡ option_map (λ (x : Window). x.row) (window_of ws above.0) → new.x ≡ old.x +ℤ row.place.l → new.y ≡ old.y +ℤ row.place.t → IsFrom ws w above old → IsFrom ws w row.parent new
  from_more w above row old new is x y from z children p q d =
      let f = from z children p q d in
      let found = row_is (window_of ws above.0) row is in
      let came = at_child ws z last ordered children p f.0 above found.0 (λ e. absurd (omega (arith, (older_than ws z last ordered children above.0 found.0 found.1).over, e))) found.1 f.1 in
      let up : came.0.up ≡ row.parent = same_window came.0.up row.parent (came.1 ∙ ap (λ (r : WindowRow). r.parent.0) found.2) in (
        came.0.at,
        subst (λ u. Passes ws z p u came.0.at) up came.0.way,
        f.2 ∙ (ap (seen_from old) came.0.inside ∙ moved_on ws above row old new came.0.at is x y),
      )

  -- above the screen nothing stands
  pub from_screen : (w above : Hwnd) (corner : Corner) → None ≡ option_map (λ (x : Window). x.row) (window_of ws above.0) → IsFrom ws w above corner → IsCornerOf ws w corner
  from_screen w above corner none from z children p q d = pick (came_from ws z last ordered children p above f.0 f.1)
    where
      f : (r : Point) × Passes ws z p above r × (q ≡ seen_from corner r)
      f = from z children p q d

      pick : ((above ≡ nobody) × (f.0 ≡ p)) ⊎ CameFrom ws z last ordered children p above f.0 → q ≡ seen_from corner p
      pick (inl e) = f.2 ∙ ap (seen_from corner) e.1
      pick (inr c) =
          let s = step_of ws z last ordered children c.at c.up.0 above c.step in
          let lost : None ≡ Some s.row.row = none ∙ ap (option_map (λ (x : Window). x.row)) s.live in
          absurd cc

  -- where a window is that isn't live, the way down to no pixel comes through it
  pub no_ways : (z : Layers) → AreChildren ws z → (p q : Point) (h : Hwnd) (P : Type 0) → None ≡ option_map (λ (x : Window). x.row) (window_of ws h.0) → h.0 ≢ 0 → Passes ws z p h q → P
  no_ways z children p q h P none some d = pick (came_from ws z last ordered children p h q d)
    where
      pick : ((h ≡ nobody) × (q ≡ p)) ⊎ CameFrom ws z last ordered children p h q → P
      pick (inl e) = absurd (some (ap (λ (u : Hwnd). u.0) e.0))
      pick (inr c) =
          let s = step_of ws z last ordered children c.at c.up.0 h c.step in
          let lost : None ≡ Some s.row.row = none ∙ ap (option_map (λ (x : Window). x.row)) s.live in
          absurd cc

  -- the box of a live window has those to which it comes through it
  pub box_ways : (width height : ℕ) (h : Hwnd) (row : WindowRow) (corner : Corner) (o : Option Rect) → Some row ≡ option_map (λ (x : Window). x.row) (window_of ws h.0) → IsCornerOf ws row.parent corner →
      ((p : Point) → is_on_screen width height p ≡ true → part_has o p ≡ covers_in ws (seen_from corner p) h) → HasWaysTo ws width height h o
  box_ways width height h row corner o is at has z children p q on some d =
      let found = row_is (window_of ws h.0) row is in
      let came = at_child ws z last ordered children p q h found.0 some found.1 d in
      let up : came.0.up ≡ row.parent = same_window came.0.up row.parent (came.1 ∙ ap (λ (r : WindowRow). r.parent.0) found.2) in
      let seen : came.0.at ≡ seen_from corner p = at z children p came.0.at (subst (λ u. Passes ws z p u came.0.at) up came.0.way) in
      let covers : covers_in ws came.0.at h ≡ true = found_passes (covers_in ws came.0.at) (reverse (siblings_of came.0.up.0 z)) h came.0.step in
      has p on ∙ (ap (λ r. covers_in ws r h) (sym seen) ∙ covers)

-- ---- the boxes of several windows

pub with_some : (old more new : List Rect) (r : Rect) → ((p : Point) → region_has more p ≡ has_pixel (box_in r) p) → ((p : Point) → region_has new p ≡ (region_has old p || region_has more p)) → (p : Point) → region_has new p ≡ (region_has old p || part_has (Some r) p)
unfolding rect_has
with_some old more new r h k p = k p ∙ ap (λ b. region_has old p || b) (h p)

or_none : (a : Bool) → a ≡ (a || false)
or_none true = refl
or_none false = refl

pub with_none : (old new : List Rect) → new ≡ old → (p : Point) → region_has new p ≡ (region_has old p || part_has None p)
with_none old new same p = ap (λ rs. region_has rs p) same ∙ or_none (region_has old p)

pub or_first : (a b : Bool) → a ≡ true → (a || b) ≡ true
or_first a b h = ap (λ c. c || b) h

pub or_last : (a b : Bool) → b ≡ true → (a || b) ≡ true
or_last true b h = refl
or_last false b h = h

one_of : (a b : Bool) → (a || b) ≡ true → (a ≡ true) ⊎ (b ≡ true)
one_of true b h = inl refl
one_of false b h = inr h

-- one window more
pub one_more : (hs : List Hwnd) (i : ℕ) (w h : Hwnd) → i < length hs → w ≡ get_or hs i w → is_one_of (take (i + 1) hs) h ≡ true → (is_one_of (take i hs) h ≡ true) ⊎ (h ≡ w)
one_more hs i w h within at any = pick (one_of (is_one_of (take i hs) h) (eqb w.0 h.0) (sym (list_any_more (λ (v : Hwnd). eqb v.0 h.0) hs i w within ∙ ap (λ (v : Hwnd). is_one_of (take i hs) h || eqb v.0 h.0) (sym at)) ∙ any))
  where
    pick : (is_one_of (take i hs) h ≡ true) ⊎ (eqb w.0 h.0 ≡ true) → (is_one_of (take i hs) h ≡ true) ⊎ (h ≡ w)
    pick (inl k) = inl k
    pick (inr k) = inr (same_window h w (sym (eqb-true w.0 h.0 k)))

pub none_yet : (ws : List Window) (width height : ℕ) → HasWays ws width height [] []
none_yet ws width height z children h p q any = absurd (false≢true any)

pub more_ways : (ws : List Window) (width height : ℕ) (hs : List Hwnd) (i : ℕ) (w : Hwnd) (o : Option Rect) (old new : List Rect) → i < length hs → w ≡ get_or hs i w → HasWaysTo ws width height w o → ((p : Point) → region_has new p ≡ (region_has old p || part_has o p)) → HasWays ws width height (take i hs) old → HasWays ws width height (take (i + 1) hs) new
more_ways ws width height hs i w o old new within at way has ways z children h p q any on some d = has p ∙ pick (one_more hs i w h within at any)
  where
    pick : (is_one_of (take i hs) h ≡ true) ⊎ (h ≡ w) → (region_has old p || part_has o p) ≡ true
    pick (inl k) = or_first (region_has old p) (part_has o p) (ways z children h p q k on some d)
    pick (inr e) = or_last (region_has old p) (part_has o p) (way z children p q on (λ n. some (ap (λ (u : Hwnd). u.0) e ∙ n)) (subst (λ u. Passes ws z p u q) e d))

-- a region with more pixels has them too
pub ways_in : (ws : List Window) (width height : ℕ) (hs : List Hwnd) (rs ss : List Rect) → ((p : Point) → region_has rs p ≡ true → region_has ss p ≡ true) → HasWays ws width height hs rs → HasWays ws width height hs ss
ways_in ws width height hs rs ss more ways z children h p q any on some d = more p (ways z children h p q any on some d)
