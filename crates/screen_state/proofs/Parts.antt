-- Rectangles that are given from a window's left top corner.
use Rattle.std.proofs.Common.{◌≡◌, ◌∙◌, ℕ, Bool, true, false, sym, ap, subst, inr, arith}
use Rattle.std.specs.Prelude.{◌||◌, ℤ, pos, negsuc, ◌+ℤ◌, ◌-ℤ◌, ◌≤ℤ◌, int_lt}
use Rattle.std.proofs.lemmas.Bool.{or_from, true≢false}
use Rattle.std.proofs.lemmas.Int.{ints}
use Rattle.win_num.specs.declared.shapes.Point.{Point}
use Rattle.win_num.specs.declared.shapes.Rect.{Rect}
use Rattle.win_num.specs.PixelSets.{Box, box, has_pixel, is_bad_rect, is_far}
use Rattle.win_num.specs.Rects.{box_in}
use Rattle.win_rows.specs.Windows.{Windows}
use Rattle.band_region.specs.Regions.{region_has}
use Rattle.std.specs.Prelude.{List}
use Rattle.user_model.specs.Pixels.{shifted}
use Rattle.user_model.specs.Refusals.{is_no_rect}
use Rattle.window_state.specs.Boxes.{IsOriginAt, origin_in}
use Rattle.window_state.proofs.BoxLaws.{IsClose, close_at, origin_at}
use Rattle.window_state.proofs.LookSteps.{edges_told}
use Rattle.window_state.proofs.TreeNeeds.{at_most, inside, not_over}
use Rattle.screen_state.specs.Parts.{IsClientPart, IsLiveAt, IsNear}

-- edges of a window's rectangle, and how they are ordered
pub record AreEdges (l t r b : ℤ) : Type 0 where
  pub left : negsuc 4095 ≤ℤ l
  pub left_high : l ≤ℤ pos 4096
  pub top : negsuc 4095 ≤ℤ t
  pub top_high : t ≤ℤ pos 4096
  pub across : l ≤ℤ r
  pub down : t ≤ℤ b
  pub right : r ≤ℤ pos 8192
  pub bottom : b ≤ℤ pos 8192

pub are_edges : (l t r b : ℤ) → is_no_rect l t r b ≡ false → AreEdges l t r b
are_edges l t r b h =
    let e = edges_told l t r b h in
    let left = inside l e.left in
    let top = inside t e.top in
    let wide = at_most (r -ℤ l) (pos 4096) e.wide in
    let high = at_most (b -ℤ t) (pos 4096) e.high in
    record {
      left = left.0;
      left_high = left.1;
      top = top.0;
      top_high = top.1;
      across = at_most l r e.across;
      down = at_most t b e.down;
      right = omega (arith, ints, left.1, wide);
      bottom = omega (arith, ints, top.1, high);
    }

none_far : (z : ℤ) → negsuc 8388607 ≤ℤ z → z ≤ℤ pos 8388608 → is_far z ≡ false
none_far z low high = or_from (int_lt z (negsuc 8388607)) (int_lt (pos 8388608) z) (not_over (negsuc 8388607) z low) (not_over z (pos 8388608) high)

none_of : (a b c d e f : Bool) → a ≡ false → b ≡ false → c ≡ false → d ≡ false → e ≡ false → f ≡ false → (a || b || c || d || e || f) ≡ false
none_of true b c d e f ha hb hc hd he hf = absurd (true≢false ha)
none_of false true c d e f ha hb hc hd he hf = absurd (true≢false hb)
none_of false false true d e f ha hb hc hd he hf = absurd (true≢false hc)
none_of false false false true e f ha hb hc hd he hf = absurd (true≢false hd)
none_of false false false false true f ha hb hc hd he hf = absurd (true≢false he)
none_of false false false false false f ha hb hc hd he hf = hf

-- moved by a corner that is near they make a rectangle
pub moved_edges : (l t r b : ℤ) (o : Point) → is_no_rect l t r b ≡ false → IsNear o → is_bad_rect (l +ℤ o.x) (t +ℤ o.y) (r +ℤ o.x) (b +ℤ o.y) ≡ false
moved_edges l t r b o h near =
    let e = are_edges l t r b h in
    none_of (int_lt (r +ℤ o.x) (l +ℤ o.x)) (int_lt (b +ℤ o.y) (t +ℤ o.y)) (is_far (l +ℤ o.x)) (is_far (t +ℤ o.y)) (is_far (r +ℤ o.x)) (is_far (b +ℤ o.y))
    (not_over (l +ℤ o.x) (r +ℤ o.x) (omega (arith, ints, e.across)))
    (not_over (t +ℤ o.y) (b +ℤ o.y) (omega (arith, ints, e.down)))
    (none_far (l +ℤ o.x) (omega (arith, ints, e.left, near.left)) (omega (arith, ints, e.left_high, near.right)))
    (none_far (t +ℤ o.y) (omega (arith, ints, e.top, near.above)) (omega (arith, ints, e.top_high, near.below)))
    (none_far (r +ℤ o.x) (omega (arith, ints, e.across, e.left, near.left)) (omega (arith, ints, e.right, near.right)))
    (none_far (b +ℤ o.y) (omega (arith, ints, e.down, e.top, near.above)) (omega (arith, ints, e.bottom, near.below)))

-- the corner of a live window is near
pub near_corner : (t : Windows) (w : ℕ) (o : Point) → IsLiveAt t w → IsOriginAt t w o → IsNear o
near_corner t w o at is =
    let same : o ≡ origin_in t.live w = is at.setup at.past at.lawful at.tree at.lives ∙ sym (origin_at at.setup at.past at.lawful t at.tree w (inr at.lives)) in
    let close : IsClose 4194304 o = subst (IsClose 4194304) (sym same) (close_at at.setup at.past at.lawful t at.tree w at.lives) in
    record {
      left = omega (arith, ints, close.left);
      right = omega (arith, ints, close.right);
      above = omega (arith, ints, close.above);
      below = omega (arith, ints, close.below);
    }

-- so the part of a live window is that of each past that has made the table
pub is_client : (t : Windows) (w : ℕ) (o : Point) (l top r b : ℤ) (rs : List Rect) (x : Rect) → IsOriginAt t w o → box_in x ≡ shifted o (box l top r b) → ((p : Point) → region_has rs p ≡ has_pixel (box_in x) p) → IsClientPart t w l top r b rs
is_client t w o l top r b rs x is same has setup past lawful tree lives p =
    has p ∙ (ap (λ (c : Box). has_pixel c p) same ∙ ap (λ (q : Point). has_pixel (shifted q (box l top r b)) p) (is setup past lawful tree lives))
