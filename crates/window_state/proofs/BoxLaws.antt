-- Corners and rectangles of windows on the screen, as the past has them.
use Rattle.std.proofs.Common.{◌≡◌, ◌≢◌, ◌∙◌, ℕ, zero, suc, ◌+◌, ◌-◌, ◌*◌, ◌<◌, ◌≤◌, Bool, true, false, not, cond, eqb, List, [], ◌∷◌, length, filter, map, Option, Some, None, refl, sym, ap, subst, inl, inr, arith}
use Rattle.std.specs.Prelude.{◌⊎◌, ◌&&◌, ◌||◌, ℤ, pos, negsuc, ◌+ℤ◌, ◌-ℤ◌, ◌≤ℤ◌, option_map, unwrap_or, is_some}
use Rattle.std.specs.List.{list_any}
use Rattle.std.specs.List.Sorted.{IsNonDecreasingBy}
use Rattle.std.proofs.lemmas.Bool.{eqb-true, ne_eqb, eq-eqb, false≢true, or_parts}
use Rattle.std.proofs.lemmas.Int.{ints}
use Rattle.std.proofs.lemmas.Map.Views.{any-filter_same}
use mir.Val.{to_z, of_z}
use mir.Syntax.{w32, w64}
use Rattle.win_num.specs.declared.message.Hwnd.{Hwnd}
use Rattle.win_num.specs.declared.shapes.Point.{Point}
use Rattle.win_num.specs.PixelSets.{Box, box, same_box}
use Rattle.win_num.specs.Rects.{box_in}
use Rattle.win_rows.specs.declared.window.Window.{Window as KeptWindow}
use Rattle.win_rows.specs.Windows.{Windows, IsOrdered, number_of}
use Rattle.win_rows.specs.Windows as kept
use Rattle.win_rows.specs.declared.row.WindowRow.{WindowRow}
use Rattle.win_rows.proofs.Rising.{RisesBy, rises}
use Rattle.user_model.specs.declared.entry.Setup.{Setup}
use Rattle.user_model.specs.Legal.{IsLawful}
use Rattle.user_model.specs.Looks.{Look, look, place_of}
use Rattle.user_model.specs.Past.{Past}
use Rattle.user_model.specs.Refusals.{is_no_rect, is_outside}
use Rattle.user_model.specs.Pixels.{point, corner_from, shifted, origin, origin_within, box_of}
use Rattle.user_model.specs.Windows.{Window, is_live, live, parent_in, up, window, windows_made}
use Rattle.user_model.proofs.Forests.{IsBetween, IsUnder, thread_found}
use Rattle.user_model.proofs.ListLaws.{all_found}
use Rattle.user_model.proofs.WindowFacts.{live_between, live_under, live_within, too_low}
use Rattle.window_state.specs.Boxes.{origin_from, origin_in, box_on, moved_in, moved_of, IsOriginAt, AreMoved}
use Rattle.window_state.specs.Trees.{as_made, HasLook, IsTreeAt}
use Rattle.window_state.proofs.LiveCounts.{count_to, count_more, count_within, few_live}
use Rattle.window_state.proofs.LookSteps.{row_is}
use Rattle.window_state.proofs.PixelOwners.{same_point}
use Rattle.window_state.proofs.TreeFacts.{found_at, is_live_at, length_at, window_at}
use Rattle.window_state.proofs.TreeNeeds.{inside}

-- no window, or one that is live
abbrev pub IsKnown : Past → ℕ → Type 0
IsKnown past w = (w ≡ 0) ⊎ (is_live past w ≡ true)

-- a point is no further from 0 0 than this along each axis
pub record IsClose (far : ℕ) (p : Point) : Type 0 where
  pub left : (pos 0 -ℤ pos far) ≤ℤ p.x
  pub right : p.x ≤ℤ pos far
  pub above : (pos 0 -ℤ pos far) ≤ℤ p.y
  pub below : p.y ≤ℤ pos far

pub at_zero : (far : ℕ) → IsClose far (point (pos 0) (pos 0))
at_zero far = record { left = omega (arith, ints); right = omega (arith, ints); above = omega (arith, ints); below = omega (arith, ints) }

-- one window further
one_further : (n m : ℕ) (o : Point) (b : Box) → suc n ≤ m → negsuc 4095 ≤ℤ b.left → b.left ≤ℤ pos 4096 → negsuc 4095 ≤ℤ b.top → b.top ≤ℤ pos 4096 → IsClose (4096 * n) o → IsClose (4096 * m) (corner_from o b)
one_further n m o b le l l' t t' h = record {
  left = omega (arith, ints, le, l, h.left);
  right = omega (arith, ints, le, l', h.right);
  above = omega (arith, ints, le, t, h.above);
  below = omega (arith, ints, le, t', h.below);
}

module _ (setup : Setup) (past : Past) (lawful : IsLawful setup past) (t : Windows) (at : IsTreeAt past t) where
  -- what a live window is in the table
  pub record InTable (w : ℕ) : Type 0 where
    pub row : KeptWindow
    pub is_row : kept.window_of t.live w ≡ Some row
    pub place : place_of past w ≡ box_in row.row.place
    pub near : HasLook past row
    pub parent : parent_in (live past) w ≡ row.row.parent.0
    pub some : w ≢ 0
    pub known : IsKnown past row.row.parent.0
    pub less : row.row.parent.0 < w

  parent_of_up : (x : Window) (w : ℕ) → window past w ≡ Some x → (IsKnown past x.parent) × (x.parent < w)
  parent_of_up x w e = pick (eqb x.parent 0) refl (live_under setup past w x lawful e) between.older
    where
      both : IsBetween 15 (15 + length (windows_made past)) x × (x.number ≡ w)
      both = live_between setup past w x lawful e

      between : IsBetween 15 (15 + length (windows_made past)) x
      between = both.0

      pick : (b : Bool) → eqb x.parent 0 ≡ b → IsUnder (live past) x → up x < x.number → (IsKnown past x.parent) × (x.parent < w)
      pick true h under older = let none = eqb-true x.parent 0 h in (inl none, omega (arith, none, both.1, between.over))
      pick false h under older =
          let is : up x ≡ x.parent = ap (λ b. cond b x.owner x.parent) h in (
            elim under [
              | inl none ↦ inl (sym is ∙ none)
              | inr same ↦ (let found = thread_found (live past) (up x) x.thread same in inr (ap (is_live past) (sym is) ∙ ap is_some found.1))
            ],
            omega (arith, is, older, both.1),
          )

  pub in_table : (w : ℕ) → is_live past w ≡ true → InTable w
  in_table w lives = pick (kept.window_of t.live w) refl
    where
      pick : (o : Option KeptWindow) → kept.window_of t.live w ≡ o → InTable w
      pick None e = absurd (false≢true (sym (ap is_some e) ∙ (sym (is_live_at past t at w) ∙ lives)))
      pick (Some x) e =
          let found : window past w ≡ Some (as_made x) = window_at past t at w ∙ ap (option_map as_made) e in
          let near = all_found (HasLook past) (λ y. eqb y.number.0 w) t.live x at.looks e in
          let above = parent_of_up (as_made x) w found in
          record {
            row = x;
            is_row = e;
            place = ap (λ (l : Look). l.place) (ap (look past) (sym (found_at past t at w x e).1) ∙ sym near.looks);
            near = near;
            parent = ap (λ (o : Option Window). unwrap_or (option_map (λ (y : Window). y.parent) o) 0) found;
            some = λ (none : w ≡ 0). absurd (omega (arith, none, (live_within setup past w lawful lives).0));
            known = above.0;
            less = above.1;
          }

  pub no_row : (w : ℕ) → w ≡ 0 → kept.window_of t.live w ≡ None
  no_row w none = pick (kept.window_of t.live w) refl
    where
      dead : is_live past w ≡ false
      dead = ap is_some (too_low setup past w lawful (omega (arith, none)))

      pick : (o : Option KeptWindow) → kept.window_of t.live w ≡ o → kept.window_of t.live w ≡ None
      pick None e = e
      pick (Some x) e = absurd (false≢true (sym dead ∙ (is_live_at past t at w ∙ ap is_some e)))

  -- one step up in the table
  abbrev stepped : ℕ → Option KeptWindow → Point
  stepped n o = elim o as (λ q. Point) [ None ↦ point (pos 0) (pos 0) | Some x ↦ corner_from (origin_from n t.live x.row.parent.0) (box_in x.row.place) ]

  -- the corners of the table are those of the past
  origin_from_at : (n w : ℕ) → IsKnown past w → origin_from n t.live w ≡ origin_within n past w
  origin_from_at zero w known = refl
  origin_from_at (suc n) w (inl none) = ap (stepped n) (no_row w none) ∙ sym (ap (λ b. elim b as (λ q. Point) [ true ↦ point (pos 0) (pos 0) | false ↦ corner_from (origin_within n past (parent_in (live past) w)) (place_of past w) ]) (eq-eqb w 0 none))
  origin_from_at (suc n) w (inr lives) =
      let x = in_table w lives in
      ap (stepped n) x.is_row
      ∙ ap (λ o. corner_from o (box_in x.row.row.place)) (origin_from_at n x.row.row.parent.0 x.known)
      ∙ sym (
      ap (λ b. elim b as (λ q. Point) [ true ↦ point (pos 0) (pos 0) | false ↦ corner_from (origin_within n past (parent_in (live past) w)) (place_of past w) ]) (ne_eqb w 0 x.some)
      ∙ ap (λ p. corner_from (origin_within n past p) (place_of past w)) x.parent
      ∙ ap (corner_from (origin_within n past x.row.row.parent.0)) x.place)

  pub origin_at : (w : ℕ) → IsKnown past w → origin_in t.live w ≡ origin past w
  origin_at w known = origin_from_at w w known

  -- so are the rectangles
  pub box_at : (w : ℕ) → is_live past w ≡ true → box_on t.live w ≡ box_of past w
  box_at w lives =
      let x = in_table w lives in
      ap (λ (o : Option KeptWindow). elim o as (λ q. Box) [ None ↦ box (pos 0) (pos 0) (pos 0) (pos 0) | Some y ↦ shifted (origin_in t.live y.row.parent.0) (box_in y.row.place) ]) x.is_row
      ∙ ap (λ o. shifted o (box_in x.row.row.place)) (origin_at x.row.row.parent.0 x.known)
      ∙ sym (ap (λ p. shifted (origin past p) (place_of past w)) x.parent ∙ ap (shifted (origin past x.row.row.parent.0)) x.place)

  -- a corner is no further away than the windows reach that have no greater number
  close_from : (n w : ℕ) → IsKnown past w → IsClose (4096 * count_to w t.live) (origin_from n t.live w)
  close_from zero w known = at_zero (4096 * count_to w t.live)
  close_from (suc n) w (inl none) = subst (IsClose (4096 * count_to w t.live)) (sym (ap (stepped n) (no_row w none))) (at_zero (4096 * count_to w t.live))
  close_from (suc n) w (inr lives) =
      let x = in_table w lives in
      let place = x.row.row.place in
      let fits = near_corner place.l place.t place.r place.b x.near.fits in
      subst (IsClose (4096 * count_to w t.live)) (sym (ap (stepped n) x.is_row))
      (one_further (count_to x.row.row.parent.0 t.live) (count_to w t.live) (origin_from n t.live x.row.row.parent.0) (box_in place) (count_more x.row.row.parent.0 w t.live x.row x.less x.is_row) fits.0.0 fits.0.1 fits.1.0 fits.1.1 (close_from n x.row.row.parent.0 x.known))
    where
      near_corner : (l t r b : ℤ) → is_no_rect l t r b ≡ false → ((negsuc 4095 ≤ℤ l) × (l ≤ℤ pos 4096)) × ((negsuc 4095 ≤ℤ t) × (t ≤ℤ pos 4096))
      near_corner l t r b h =
          let a = or_parts (is_outside l) _ h in
          let c = or_parts (is_outside t) _ a.1 in
          (inside l a.0, inside t c.0)

  -- so it fits in 32 bits
  pub close_at : (w : ℕ) → is_live past w ≡ true → IsClose 4194304 (origin_in t.live w)
  close_at w lives =
      let few = few_live setup past lawful in
      let same = length_at past t at in
      let less = count_within w t.live in
      let close = close_from w w (inr lives) in
      record {
        left = omega (arith, ints, few, same, less, close.left);
        right = omega (arith, ints, few, same, less, close.right);
        above = omega (arith, ints, few, same, less, close.above);
        below = omega (arith, ints, few, same, less, close.below);
      }

-- a point that is the table's corner where that fits in 32 bits is the past's
pub is_origin : (t : Windows) (w : ℕ) (p : Point) → ((negsuc 2147483647 ≤ℤ (origin_in t.live w).x) → ((origin_in t.live w).x ≤ℤ pos 2147483647) → p.x ≡ (origin_in t.live w).x) → ((negsuc 2147483647 ≤ℤ (origin_in t.live w).y) → ((origin_in t.live w).y ≤ℤ pos 2147483647) → p.y ≡ (origin_in t.live w).y) → IsOriginAt t w p
is_origin t w p across down setup past lawful at lives =
    let close = close_at setup past lawful t at w lives in
    let x = across (omega (arith, ints, close.left)) (omega (arith, ints, close.right)) in
    let y = down (omega (arith, ints, close.above)) (omega (arith, ints, close.below)) in
    same_point p.x p.y (origin_in t.live w).x (origin_in t.live w).y x y ∙ origin_at setup past lawful t at w (inr lives)

-- ---- windows that moved

pub numbers_rise : (from last : ℕ) (ws : List KeptWindow) → IsOrdered from last ws → RisesBy (λ v. v.0) from (map number_of ws)
numbers_rise from last [] h = tt
numbers_rise from last (x ∷ ws) h = (h.0, numbers_rise x.number.0 last ws h.2)

lower : (less from : ℕ) (hs : List Hwnd) → less ≤ from → RisesBy (λ v. v.0) from hs → RisesBy (λ v. v.0) less hs
lower less from [] le h = tt
lower less from (x ∷ hs) le h = (omega (arith, le, h.0), h.1)

rises_filter : (p : Hwnd → Bool) (from : ℕ) (hs : List Hwnd) → RisesBy (λ v. v.0) from hs → RisesBy (λ v. v.0) from (filter p hs)
rises_filter p from [] h = tt
rises_filter p from (x ∷ hs) h = pick (rises_filter p x.0 hs h.1) (p x)
  where
    pick : RisesBy (λ (v : Hwnd). v.0) x.0 (filter p hs) → (b : Bool) → RisesBy (λ (v : Hwnd). v.0) from (cond b (x ∷ filter p hs) (filter p hs))
    pick rest true = (h.0, rest)
    pick rest false = lower from x.0 (filter p hs) (omega (arith, h.0)) rest

-- their numbers rise
pub moved_rise : (old new : List KeptWindow) (last : ℕ) → IsOrdered 15 last new → IsNonDecreasingBy (λ (h : Hwnd). h.0) (moved_of old new)
moved_rise old new last ordered = rises (λ (h : Hwnd). h.0) 15 (moved_of old new) (rises_filter (λ w. moved_in old new w.0) 15 (map number_of new) (numbers_rise 15 last new ordered))

numbered : (ws : List KeptWindow) (w : ℕ) → list_any (λ (h : Hwnd). eqb h.0 w) (map number_of ws) ≡ kept.is_live ws w
numbered [] w = refl
numbered (x ∷ ws) w = pick (numbered ws w) (eqb x.number.0 w)
  where
    pick : list_any (λ (h : Hwnd). eqb h.0 w) (map number_of ws) ≡ kept.is_live ws w → (b : Bool) → (b || list_any (λ (h : Hwnd). eqb h.0 w) (map number_of ws)) ≡ is_some (cond b (Some x) (kept.window_of ws w))
    pick rest true = refl
    pick rest false = rest

-- a window of the second list is among them exactly where its rectangle is another
pub among_moved : (old new : List KeptWindow) (w : ℕ) → kept.is_live new w ≡ true → list_any (λ (h : Hwnd). eqb h.0 w) (moved_of old new) ≡ moved_in old new w
among_moved old new w lives =
    any-filter_same (λ (h : Hwnd). eqb h.0 w) (λ (h : Hwnd). moved_in old new h.0) (moved_in old new w) (λ h e. ap (moved_in old new) (eqb-true h.0 w e)) (map number_of new)
    ∙ (ap (λ b. moved_in old new w && b) (numbered new w ∙ lives) ∙ and-true (moved_in old new w))
  where
    and-true : (b : Bool) → (b && true) ≡ b
    and-true true = refl
    and-true false = refl

-- so they are those that an entry moves
pub are_moved : (old new : Windows) → AreMoved old new (moved_of old.live new.live)
are_moved old new setup past e lawful before after w was is =
    among_moved old.live new.live w (sym (is_live_at (e ∷ past) new after w) ∙ is)
    ∙ (ap (λ b. not (same_box b (box_on old.live w))) (box_at setup (e ∷ past) lawful new after w is)
    ∙ ap (λ b. not (same_box (box_of (e ∷ past) w) b)) (box_at setup past lawful.0 old before w was))

-- ---- numbers of the code

-- sums of edges and corners fit in 64 bits
pub edge_sum : (a s r z : ℤ) → r ≡ to_z w32 (of_z w32 s) → s ≡ a → negsuc 8388607 ≤ℤ a → a ≤ℤ pos 8388608 → negsuc 36028797018963967 ≤ℤ z → z ≤ℤ pos 36028797018963968 → to_z w64 (of_z w64 (to_z w64 (of_z w64 r) +ℤ to_z w64 (of_z w64 z))) ≡ a +ℤ z
edge_sum a s r z e f low high under over = omega (arith, ints, e, f, low, high, under, over)

pub same_edges : (l t r b l' t' r' b' : ℤ) → l ≡ l' → t ≡ t' → r ≡ r' → b ≡ b' → box l t r b ≡ box l' t' r' b'
same_edges l t r b l' t' r' b' e f g h = cc

-- one step up from a live window
pub corner_step : (n : ℕ) (ws : List KeptWindow) (w : ℕ) (row : WindowRow) (o : Point) (place : Box) → n ≢ 0 → Some row ≡ option_map (λ (x : KeptWindow). x.row) (kept.window_of ws w) → o ≡ origin_from (n - 1) ws row.parent.0 → place ≡ box_in row.place → corner_from o place ≡ origin_from n ws w
corner_step zero ws w row o place some found is same = absurd (some refl)
corner_step (suc n) ws w row o place some found is same =
    let at = row_is (kept.window_of ws w) row found in
    let less : suc n - 1 ≡ n = omega arith in
    ap (corner_from o) same
    ∙ ap (λ q. corner_from q (box_in row.place)) (is ∙ ap (λ m. origin_from m ws row.parent.0) less)
    ∙ ap (λ (r : WindowRow). corner_from (origin_from n ws r.parent.0) (box_in r.place)) (sym at.2)
    ∙ sym (ap (λ (q : Option KeptWindow). elim q as (λ c. Point) [ None ↦ point (pos 0) (pos 0) | Some x ↦ corner_from (origin_from n ws x.row.parent.0) (box_in x.row.place) ]) at.1)
