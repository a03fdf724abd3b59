-- What a window has to share out, from what its parent has.
use Rattle.std.proofs.Common.{◌≡◌, ℕ, zero, suc, ◌+◌, ◌<◌, ◌≤◌, Bool, true, false, cond, not, eqb, List, [], ◌∷◌, length, drop, get_or, Option, Some, None, refl, ap, ◌∙◌, sym, subst, arith}
use Rattle.std.specs.Prelude.{◌&&◌, ℤ, pos, ◌+ℤ◌, ◌-ℤ◌, option_map}
use Rattle.std.specs.List.{All, list_any}
use Rattle.std.proofs.lemmas.Bool.{eq-eqb, ne_eqb, eqb-true, false≢true, true≢false}
use Rattle.std.proofs.lemmas.Int.{ints}
use Rattle.std.proofs.lemmas.List.Elements.{recursion_from_All}
use Rattle.std.proofs.lemmas.List.{get_or_default, nil_from_length}
use Rattle.win_num.specs.declared.message.Hwnd.{Hwnd}
use Rattle.win_num.specs.declared.shapes.Point.{Point}
use Rattle.win_num.specs.declared.shapes.Rect.{Rect}
use Rattle.win_order.specs.Layers.{Layers}
use Rattle.win_rows.specs.declared.row.WindowRow.{WindowRow}
use Rattle.win_rows.specs.declared.window.Window.{Window}
use Rattle.win_rows.specs.Windows.{IsOrdered, nobody, window_of}
use Rattle.band_region.specs.Regions.{rect_has, region_has}
use Rattle.user_model.specs.Pixels.{point}
use Rattle.window_state.proofs.LookSteps.{row_is}
use Rattle.window_state.specs.Pixels.{covers_in, deepest_in, highest_in, inside_of, owner_in}
use Rattle.screen_owners.specs.declared.covers.Cover.{Cover}
use Rattle.screen_owners.specs.declared.screen.Corner.{Corner}
use Rattle.screen_owners.specs.declared.screen.Part.{Part}
use Rattle.screen_owners.specs.declared.owners.Owned.{Owned}
use Rattle.screen_owners.specs.declared.shares.Share.{Share}
use Rattle.screen_owners.specs.Owners.{is_on_screen, is_within, AreChildren, IsOwned}
use Rattle.screen_owners.specs.Shares.{any_covers, has_share, seen_from, top_at, AreCovers, IsBelow, IsCoverAt, IsLastAt, IsLeft, IsMovedBy, IsNear, IsParentAt, IsParentless, IsShare, IsShareOf, IsTaken, IsUnreached, Passes, begins, goes_on}
use Rattle.screen_owners.proofs.Cuts.{both_true, same_window, taken_top, top_among, top_covers, top_none, top_some, top_taken, is_of}
use Rattle.screen_owners.proofs.Ways.{at_child, at_screen, older_than, owner_below, owner_here, owner_passes}

three : (a b c : Bool) → (a && b && not c) ≡ true → (a ≡ true) × (b ≡ true) × (c ≡ false)
three true true false h = (refl, refl, refl)
three true true true h = absurd (false≢true h)
three true false c h = absurd (false≢true h)
three false b c h = absurd (false≢true h)

and_true : (a b c : Bool) → a ≡ true → b ≡ true → c ≡ false → (a && b && not c) ≡ true
and_true a b c e f g = cc

-- ---- corners

one_point : (a b c d : ℤ) → a ≡ c → b ≡ d → point a b ≡ point c d
one_point a b c d e f = cc

less_both : (x o l n : ℤ) → n ≡ o +ℤ l → (x -ℤ o) -ℤ l ≡ x -ℤ n
less_both x o l n e = omega (arith, ints, e)

at_origin : (corner : Corner) (p : Point) → corner.x ≡ pos 0 → corner.y ≡ pos 0 → seen_from corner p ≡ p
at_origin corner p x y = one_point (p.x -ℤ corner.x) (p.y -ℤ corner.y) p.x p.y (omega (arith, ints, x)) (omega (arith, ints, y))

pub near_more : (n m : ℕ) (corner : Corner) → n ≤ m → IsNear n corner → IsNear m corner
near_more n m corner h near = record {
  left = omega (arith, ints, near.left, h);
  right = omega (arith, ints, near.right, h);
  above = omega (arith, ints, near.above, h);
  below = omega (arith, ints, near.below, h);
}

-- a window's corner is that of its parent, moved by its place
pub moved_row : (ws : List Window) (w : Hwnd) (row : WindowRow) (old new : Corner) → Some row ≡ option_map (λ (x : Window). x.row) (window_of ws w.0) → new.x ≡ old.x +ℤ row.place.l → new.y ≡ old.y +ℤ row.place.t → IsMovedBy ws w old new
moved_row ws w row old new is x y = record { same = same; near = near }
  where
    at : (x : Window) × (window_of ws w.0 ≡ Some x) × (x.row ≡ row)
    at = row_is (window_of ws w.0) row is

    place : at.0.row.place ≡ row.place
    place = ap (λ (r : WindowRow). r.place) at.2

    same : (p : Point) → inside_of ws (seen_from old p) w ≡ seen_from new p
    same p =
        ap (λ (o : Option Window). elim o as (λ _. Point) [ None ↦ seen_from old p | Some y ↦ point ((p.x -ℤ old.x) -ℤ y.row.place.l) ((p.y -ℤ old.y) -ℤ y.row.place.t) ]) at.1
        ∙ ap (λ (r : Rect). point ((p.x -ℤ old.x) -ℤ r.l) ((p.y -ℤ old.y) -ℤ r.t)) place
        ∙ one_point _ _ _ _ (less_both p.x old.x row.place.l new.x x) (less_both p.y old.y row.place.t new.y y)

    near : (n : ℕ) → IsNear n old → IsNear (n + 1) new
    near n h = record {
      left = omega (arith, ints, h.left, x, row.place.left_near);
      right = omega (arith, ints, h.right, x, row.place.across, row.place.right_near);
      above = omega (arith, ints, h.above, y, row.place.top_near);
      below = omega (arith, ints, h.below, y, row.place.down, row.place.bottom_near);
    }

-- the share at a place is that of the parent
pub parent_at : (ws : List Window) (ss : List Share) (w : Hwnd) (i : ℕ) (s : Share) (row : WindowRow) → i < length ss → s ≡ get_or ss i s → s.window.0 ≡ row.parent.0 → Some row ≡ option_map (λ (x : Window). x.row) (window_of ws w.0) → IsParentAt ws ss w i
parent_at ws ss w i s row within at number is = record {
  within = within;
  below = λ t e.
      let found = row_is (window_of ws w.0) row is in
      let same : t ≡ s = e ∙ get_or_default ss i t s within ∙ sym at in
      record { row = found.0; live = found.1; parent = ap (λ (r : WindowRow). r.parent.0) found.2 ∙ sym number ∙ ap (λ (u : Share). u.window.0) (sym same) };
}

-- no share is that of the parent
pub parentless : (ws : List Window) (ss : List Share) (w : Hwnd) (row : WindowRow) → Some row ≡ option_map (λ (x : Window). x.row) (window_of ws w.0) → has_share ss row.parent.0 ≡ false → IsParentless ws ss w
parentless ws ss w row is none x e =
    let found = row_is (window_of ws w.0) row is in
    let both : Some found.0 ≡ Some x = sym found.1 ∙ e in
    let same : found.0 ≡ x = cc in
    ap (λ (y : Window). has_share ss y.row.parent.0) (sym same) ∙ (ap (λ (r : WindowRow). has_share ss r.parent.0) found.2 ∙ none)

-- ---- shares

cover_at : (cs : List Cover) (i : ℕ) → i < length cs → (c : Cover) × (c ≡ get_or cs i c)
cover_at [] i h = absurd (omega (arith, h))
cover_at (x ∷ xs) zero h = (x, refl)
cover_at (x ∷ xs) (suc i) h = cover_at xs i (omega (arith, h))

-- the way down to a pixel comes through a window, and so through its parent's share and covers
record IsWayIn (ws : List Window) (z : Layers) (s : Share) (w : Hwnd) (p q : Point) : Type 0 where
  shared : region_has s.taken p ≡ true
  covered : top_at s.covers.items p ≡ Some w
  inside : q ≡ inside_of ws (seen_from s.corner p) w

module _ (ws : List Window) (z : Layers) (last : ℕ) (part : Part) (ordered : IsOrdered 15 last ws) (children : AreChildren ws z) where
  -- the whole part is the screen's share
  pub first_share : (s : Share) → s.window ≡ nobody → s.corner.x ≡ pos 0 → s.corner.y ≡ pos 0 → ((p : Point) → region_has s.taken p ≡ is_within part p) → ((p : Point) → is_within part p ≡ true → AreCovers ws z s.corner 0 p s.covers.items) → All (IsLeft s.taken s.covers.items) s.lefts.items → IsShareOf ws z part nobody s
  first_share s first x y whole covers lefts = (
    first,
    record {
      near = record {
        left = omega (arith, ints, x, number);
        right = omega (arith, ints, x, number);
        above = omega (arith, ints, y, number);
        below = omega (arith, ints, y, number);
      };
      inside = λ p h. sym (whole p) ∙ h;
      passes = λ p h. subst (λ u. Passes ws z p u (seen_from s.corner p)) (sym first) (subst (Passes ws z p nobody) (sym (at_origin s.corner p x y)) begins);
      all = λ p q on d. (whole p ∙ on, at_screen ws z last ordered children p q (subst (λ u. Passes ws z p u q) first d) ∙ sym (at_origin s.corner p x y));
      covers = λ p h. subst (λ n. AreCovers ws z s.corner n p s.covers.items) (sym number) (covers p (sym (whole p) ∙ h));
      lefts = lefts;
    },
  )
    where
      number : s.window.0 ≡ 0
      number = ap (λ (u : Hwnd). u.0) first

  -- the way down to a pixel that comes through the window
  way_in : (s : Share) (w : Hwnd) (p q : Point) → IsShare ws z part s → IsBelow ws s.window w → is_within part p ≡ true → Passes ws z p w q → IsWayIn ws z s w p q
  way_in s w p q share below on d =
      let came = at_child ws z last ordered children p q w below.row (λ e. absurd (omega (arith, (older_than ws z last ordered children w.0 below.row below.live).over, e))) below.live d in
      let up : came.0.up ≡ s.window = same_window came.0.up s.window (came.1 ∙ below.parent) in
      let way : Passes ws z p s.window came.0.at = subst (λ u. Passes ws z p u came.0.at) up came.0.way in
      let whole = share.all p came.0.at on way in
      let step : highest_in ws z (seen_from s.corner p) s.window.0 ≡ Some w = ap (λ q. highest_in ws z q s.window.0) (sym whole.1) ∙ ap (λ (u : Hwnd). highest_in ws z came.0.at u.0) (sym up) ∙ came.0.step in
      record { shared = whole.0; covered = (share.covers p whole.0).top ∙ step; inside = came.0.inside ∙ ap (λ q. inside_of ws q w) whole.1 }

  -- it comes through what the window takes of its parent's share
  child_way : (s : Share) (taken : List Rect) (w : Hwnd) (i : ℕ) (c : Cover) (p q : Point) → IsShare ws z part s → IsBelow ws s.window w → IsLastAt s.covers.items w.0 i → c ≡ get_or s.covers.items i c → IsTaken s.taken s.covers.items i taken → is_within part p ≡ true → Passes ws z p w q → region_has taken p ≡ true
  child_way s taken w i c p q share below at is takes on d =
      let way = way_in s w p q share below on d in
      let parts = top_taken ws (seen_from s.corner p) p s.covers.items w i c (share.covers p way.shared).each at is way.covered in
      takes c p is ∙ and_true (region_has s.taken p) (rect_has c.part p) (any_covers (drop (i + 1) s.covers.items) p) way.shared parts.0 parts.1

  -- a child's share, from its parent's
  pub child_share : (s t : Share) (i : ℕ) → IsShare ws z part s → IsBelow ws s.window t.window → IsLastAt s.covers.items t.window.0 i → IsTaken s.taken s.covers.items i t.taken → IsMovedBy ws t.window s.corner t.corner →
      ((p : Point) → is_within part p ≡ true → AreCovers ws z t.corner t.window.0 p t.covers.items) → All (IsLeft t.taken t.covers.items) t.lefts.items → IsShare ws z part t
  child_share s t i share below at taken moved covers lefts = record {
    near = near_more (s.window.0 + 1) t.window.0 t.corner (omega (arith, (older_than ws z last ordered children t.window.0 below.row below.live).parent, below.parent)) (moved.near s.window.0 share.near);
    inside = on;
    passes = λ p h.
        let parts = three (region_has s.taken p) (rect_has c.part p) (any_covers (drop (i + 1) s.covers.items) p) (sym (taken c p is) ∙ h) in
        let top : top_at s.covers.items p ≡ Some c.window = taken_top s.covers.items i c p at.within is parts.1 parts.2 in
        let step : highest_in ws z (seen_from s.corner p) s.window.0 ≡ Some t.window = sym (share.covers p parts.0).top ∙ top ∙ ap (λ (u : Hwnd). Some u) (same_window c.window t.window (at.window c is)) in
        subst (Passes ws z p t.window) (moved.same p) (goes_on t.window (share.passes p parts.0) step);
    all = λ p q screen d. (child_way s t.taken t.window i c p q share below at is taken screen d, (way_in s t.window p q share below screen d).inside ∙ moved.same p);
    covers = λ p h. covers p (on p h);
    lefts = lefts;
  }
    where
      c : Cover
      c = (cover_at s.covers.items i at.within).0

      is : c ≡ get_or s.covers.items i c
      is = (cover_at s.covers.items i at.within).1

      on : (p : Point) → region_has t.taken p ≡ true → is_within part p ≡ true
      on p h = share.inside p (three (region_has s.taken p) (rect_has c.part p) (any_covers (drop (i + 1) s.covers.items) p) (sym (taken c p is) ∙ h)).0

  -- a window that takes no pixel
  pub none_taken : (s : Share) (taken : List Rect) (w : Hwnd) (i : ℕ) → IsShare ws z part s → IsBelow ws s.window w → IsLastAt s.covers.items w.0 i → IsTaken s.taken s.covers.items i taken → length taken ≡ 0 → IsUnreached ws z part w
  none_taken s taken w i share below at takes none p q on d =
      let c = cover_at s.covers.items i at.within in
      false≢true (sym (ap (λ rs. region_has rs p) (nil_from_length taken none)) ∙ child_way s taken w i c.0 p q share below at c.1 takes on d)

  -- a window that isn't among the covers of its parent's share
  pub not_covered : (s : Share) (w : Hwnd) → IsShare ws z part s → IsBelow ws s.window w → list_any (is_of w.0) s.covers.items ≡ false → IsUnreached ws z part w
  not_covered s w share below none p q on d = true≢false (sym (top_among s.covers.items p w (way_in s w p q share below on d).covered) ∙ none)

  -- a window that has no pixel of the part
  pub not_met : (s : Share) (w : Hwnd) → IsShare ws z part s → IsBelow ws s.window w → ((p : Point) → is_within part p ≡ true → false ≡ covers_in ws (seen_from s.corner p) w) → IsUnreached ws z part w
  not_met s w share below none p q on d =
      let way = way_in s w p q share below on d in
      let here = recursion_from_All (IsCoverAt ws (seen_from s.corner p) p) s.covers.items (share.covers p way.shared).each in
      false≢true (none p on ∙ top_covers ws (seen_from s.corner p) p s.covers.items w here way.covered)

  -- what a window owns, from its share
  pub owned_of : (s : Share) (o : Owned) → IsShare ws z part s → o.window ≡ s.window → ((p : Point) → region_has o.region p ≡ (region_has s.taken p && not (any_covers s.covers.items p))) → IsOwned ws z part o
  owned_of s o share same left p = left p ∙ pick (region_has s.taken p) refl (any_covers s.covers.items p) refl ∙ ap (λ (u : Hwnd). is_within part p && eqb (owner_in ws z part.screen.width part.screen.height p).0 u.0) (sym same)
    where
      on_owner : is_within part p ≡ true → owner_in ws z part.screen.width part.screen.height p ≡ deepest_in (length ws) ws z p nobody
      on_owner on = ap (λ b. cond b (deepest_in (length ws) ws z p nobody) nobody) (both_true (is_on_screen part.screen.width part.screen.height p) (region_has part.region p) on).0

      pick : (a : Bool) → region_has s.taken p ≡ a → (b : Bool) → any_covers s.covers.items p ≡ b → (a && not b) ≡ (is_within part p && eqb (owner_in ws z part.screen.width part.screen.height p).0 s.window.0)
      pick true h false k =
          let on = share.inside p h in
          let top : highest_in ws z (seen_from s.corner p) s.window.0 ≡ None = sym (share.covers p h).top ∙ top_none s.covers.items p k in
          let owner : owner_in ws z part.screen.width part.screen.height p ≡ s.window = on_owner on ∙ owner_here ws z last ordered children p (seen_from s.corner p) s.window (share.passes p h) top in
          sym (ap (λ b. b && eqb (owner_in ws z part.screen.width part.screen.height p).0 s.window.0) on ∙ eq-eqb (owner_in ws z part.screen.width part.screen.height p).0 s.window.0 (ap (λ (u : Hwnd). u.0) owner))
      pick true h true k =
          let on = share.inside p h in
          let u = top_some s.covers.items p k in
          let step : highest_in ws z (seen_from s.corner p) s.window.0 ≡ Some u.0 = sym (share.covers p h).top ∙ u.1 in
          let other = owner_below ws z last ordered children p (seen_from s.corner p) s.window u.0 (share.passes p h) step in
          let owner : (owner_in ws z part.screen.width part.screen.height p).0 ≡ (deepest_in (length ws) ws z p nobody).0 = ap (λ (u : Hwnd). u.0) (on_owner on) in
          sym (ap (λ b. b && eqb (owner_in ws z part.screen.width part.screen.height p).0 s.window.0) on ∙ ne_eqb (owner_in ws z part.screen.width part.screen.height p).0 s.window.0 (λ e. absurd (omega (arith, other, owner, e))))
      pick false h b k = by (is_within part p) refl (eqb (owner_in ws z part.screen.width part.screen.height p).0 s.window.0) refl
        where
          by : (c : Bool) → is_within part p ≡ c → (d : Bool) → eqb (owner_in ws z part.screen.width part.screen.height p).0 s.window.0 ≡ d → false ≡ (c && d)
          by false on d is = refl
          by true on false is = refl
          by true on true is =
              let number : (owner_in ws z part.screen.width part.screen.height p).0 ≡ s.window.0 = eqb-true (owner_in ws z part.screen.width part.screen.height p).0 s.window.0 is in
              let owner : deepest_in (length ws) ws z p nobody ≡ s.window = same_window (deepest_in (length ws) ws z p nobody) s.window (ap (λ (u : Hwnd). u.0) (sym (on_owner on)) ∙ number) in
              let way = owner_passes ws z last ordered children (length ws) p p nobody begins in
              absurd (false≢true (sym h ∙ (share.all p way.0 on (subst (λ u. Passes ws z p u way.0) owner way.1)).0))
