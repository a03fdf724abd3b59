-- Steps from the screen down to the window that owns a pixel.
use Rattle.std.proofs.Common.{◌≡◌, ℕ, suc, ◌+◌, ◌-◌, ◌<◌, Bool, true, false, List, Option, Some, None, refl, ap, ◌∙◌, sym, arith}
use Rattle.std.specs.Prelude.{◌&&◌, ℤ, pos, negsuc, ◌-ℤ◌, ◌≤ℤ◌, ◌<ℤ◌, int_le, int_lt, option_map}
use Rattle.std.proofs.lemmas.Bool.{false≢true}
use Rattle.std.proofs.lemmas.Int.{ints}
use mir.Val.{SFits}
use mir.Syntax.{w64}
use Rattle.win_num.specs.declared.shapes.Rect.{Rect}
use Rattle.win_num.specs.declared.message.Hwnd.{Hwnd}
use Rattle.win_num.specs.declared.names.TheConstants.{WS_VISIBLE}
use Rattle.win_num.specs.declared.shapes.Point.{Point}
use Rattle.win_num.specs.PixelSets.{Box, has_pixel}
use Rattle.win_num.specs.Rects.{box_in}
use Rattle.win_order.specs.Layers.{Layers}
use Rattle.win_rows.specs.declared.row.WindowRow.{WindowRow}
use Rattle.win_rows.specs.declared.window.Window.{Window}
use Rattle.win_rows.specs.Windows.{window_of}
use Rattle.user_model.specs.Windows.{has_flag}
use Rattle.user_model.specs.Pixels.{point}
use Rattle.window_state.specs.Placings.{box_of}
use Rattle.window_state.specs.Pixels.{covers_in, highest_in, inside_of, deepest_in}
use Rattle.window_state.specs.declared.looks.Edges.{Edges}
use Rattle.window_state.proofs.LookSteps.{row_is}

pub both_true : (a b : Bool) → (a && b) ≡ true → (a ≡ true) × (b ≡ true)
both_true true b h = (refl, h)
both_true false b h = absurd (false≢true h)

halves : (a b c d : Bool) → (a && b && c && d) ≡ true → ((a && b) ≡ true) × ((c && d) ≡ true)
halves true true c d h = (refl, h)
halves true false c d h = absurd (false≢true h)
halves false b c d h = absurd (false≢true h)

-- a point between the edges
pub record IsBetweenEdges (e : Edges) (x y : ℤ) : Type 0 where
  pub across : (int_le e.l x && int_lt x e.r) ≡ true
  pub down : (int_le e.t y && int_lt y e.b) ≡ true

-- a window that has a point has it between its edges
pub between_edges : (ws : List Window) (x y : ℤ) (w : Hwnd) (row : WindowRow) (e : Edges) → Some row ≡ option_map (λ (v : Window). v.row) (window_of ws w.0) → box_of e ≡ box_in row.place → covers_in ws (point x y) w ≡ true → IsBetweenEdges e x y
between_edges ws x y w row e is edges h =
    let at = row_is (window_of ws w.0) row is in
    let found : (has_flag at.0.row.style WS_VISIBLE && has_pixel (box_in at.0.row.place) (point x y)) ≡ true =
    ap (λ (o : Option Window). elim o as (λ q. Bool) [ None ↦ false | Some v ↦ has_flag v.row.style WS_VISIBLE && has_pixel (box_in v.row.place) (point x y) ]) (sym at.1) ∙ h in
    let has : has_pixel (box_of e) (point x y) ≡ true =
    ap (λ (b : Box). has_pixel b (point x y)) (edges ∙ ap (λ (r : WindowRow). box_in r.place) (sym at.2))
    ∙ (both_true (has_flag at.0.row.style WS_VISIBLE) (has_pixel (box_in at.0.row.place) (point x y)) found).1 in
    let both = halves (int_le e.l x) (int_lt x e.r) (int_le e.t y) (int_lt y e.b) has in
    record { across = both.0; down = both.1 }

le_of : (a b : ℤ) → int_le a b ≡ true → a ≤ℤ b
le_of a b h = grind (arith, ints)

lt_of : (a b : ℤ) → int_lt a b ≡ true → a <ℤ b
lt_of a b h = grind (arith, ints)

-- numbers on the way fit in 64 bits
pub record AreSmall (e : Edges) (x y : ℤ) : Type 0 where
  pub left : SFits w64 e.l
  pub top : SFits w64 e.t
  pub right : SFits w64 e.r
  pub bottom : SFits w64 e.b
  pub at_x : SFits w64 x
  pub at_y : SFits w64 y
  pub behind_left : SFits w64 (x -ℤ e.l)
  pub behind_top : SFits w64 (y -ℤ e.t)

small : (z : ℤ) → negsuc 16777215 ≤ℤ z → z ≤ℤ pos 16777216 → SFits w64 z
small z low high = grind (arith, ints)

pub all_small : (place : Rect) (e : Edges) (x y : ℤ) → box_of e ≡ box_in place → IsBetweenEdges e x y → AreSmall e x y
all_small place e x y edges between =
    let left : e.l ≡ place.l = ap (λ (b : Box). b.left) edges in
    let top : e.t ≡ place.t = ap (λ (b : Box). b.top) edges in
    let right : e.r ≡ place.r = ap (λ (b : Box). b.right) edges in
    let bottom : e.b ≡ place.b = ap (λ (b : Box). b.bottom) edges in
    let across = both_true (int_le e.l x) (int_lt x e.r) between.across in
    let down = both_true (int_le e.t y) (int_lt y e.b) between.down in
    let lx = le_of e.l x across.0 in
    let xr = lt_of x e.r across.1 in
    let ty = le_of e.t y down.0 in
    let yb = lt_of y e.b down.1 in
    let near_left = place.left_near in
    let near_top = place.top_near in
    let near_right = place.right_near in
    let near_bottom = place.bottom_near in
    let low_x : negsuc 8388607 ≤ℤ e.l = omega (arith, ints, left, near_left) in
    let low_y : negsuc 8388607 ≤ℤ e.t = omega (arith, ints, top, near_top) in
    let high_x : e.r ≤ℤ pos 8388608 = omega (arith, ints, right, near_right) in
    let high_y : e.b ≤ℤ pos 8388608 = omega (arith, ints, bottom, near_bottom) in
    record {
      left = small e.l (omega (arith, ints, low_x)) (omega (arith, ints, lx, xr, high_x));
      top = small e.t (omega (arith, ints, low_y)) (omega (arith, ints, ty, yb, high_y));
      right = small e.r (omega (arith, ints, low_x, lx, xr)) (omega (arith, ints, high_x));
      bottom = small e.b (omega (arith, ints, low_y, ty, yb)) (omega (arith, ints, high_y));
      at_x = small x (omega (arith, ints, low_x, lx)) (omega (arith, ints, xr, high_x));
      at_y = small y (omega (arith, ints, low_y, ty)) (omega (arith, ints, yb, high_y));
      behind_left = small (x -ℤ e.l) (omega (arith, ints, low_x, lx)) (omega (arith, ints, low_x, xr, high_x));
      behind_top = small (y -ℤ e.t) (omega (arith, ints, low_y, ty)) (omega (arith, ints, low_y, yb, high_y));
    }

-- a point counted from the corner that the edges give
pub inside_row : (ws : List Window) (x y : ℤ) (w : Hwnd) (row : WindowRow) (e : Edges) → Some row ≡ option_map (λ (v : Window). v.row) (window_of ws w.0) → box_of e ≡ box_in row.place → point (x -ℤ e.l) (y -ℤ e.t) ≡ inside_of ws (point x y) w
inside_row ws x y w row e is edges =
    let at = row_is (window_of ws w.0) row is in
    ap (λ (b : Box). point (x -ℤ b.left) (y -ℤ b.top)) (edges ∙ ap (λ (r : WindowRow). box_in r.place) (sym at.2))
    ∙ sym (ap (λ (o : Option Window). elim o as (λ q. Point) [ None ↦ point x y | Some v ↦ point (x -ℤ v.row.place.l) (y -ℤ v.row.place.t) ]) at.1)

-- a step down leads to the same owner
pub step_down : (n : ℕ) (ws : List Window) (z : Layers) (p : Point) (w v : Hwnd) → highest_in ws z p w.0 ≡ Some v → deepest_in (suc n) ws z p w ≡ deepest_in n ws z (inside_of ws p v) v
step_down n ws z p w v h = ap (λ (o : Option Hwnd). elim o as (λ q. Hwnd) [ Some u ↦ deepest_in n ws z (inside_of ws p u) u | None ↦ w ]) h

-- where no child has the point, the window is the owner
pub stops : (n : ℕ) (ws : List Window) (z : Layers) (p : Point) (w : Hwnd) → highest_in ws z p w.0 ≡ None → deepest_in (suc n) ws z p w ≡ w
stops n ws z p w h = ap (λ (o : Option Hwnd). elim o as (λ q. Hwnd) [ Some u ↦ deepest_in n ws z (inside_of ws p u) u | None ↦ w ]) h

pub one_more : (n k : ℕ) → k < n → n - k ≡ suc (n - (k + 1))
one_more n k h = omega (arith, h)
