use Rattle.std.proofs.Common.{pos, ◌≤ℤ◌, ◌∙◌, sym, subst, arith}
use Rattle.std.proofs.lemmas.Int.{ints, to_z-of_z}
use Rattle.screen_buf.proofs.Edges.{left_fits, top_fits, right_fits, bottom_fits}
use Rattle.screen_buf.proofs.Carries.{apart, ends, zero_fits, edges, near, fits, rect_copied}
use Rattle.screen_buf.proofs.carry.carry_rect.Goals as goal

pub distance-requires-clause-least : goal.distance-requires-clause-least
distance-requires-clause-least c =
    let f = left_fits c.args.part in
    let e = (edges _ _ _ _ _ c.requires.filled c.requires.lies).left in
    simp (c.l.ensures, to_z-of_z) (omega (arith, ints))

pub distance-requires-2-clause-least : goal.distance-requires-2-clause-least
distance-requires-2-clause-least c =
    let f = top_fits c.args.part in
    let e = (edges _ _ _ _ _ c.requires.filled c.requires.lies).top in
    simp (c.t.ensures, to_z-of_z) (omega (arith, ints))

pub distance-requires-5-clause-least : goal.distance-requires-5-clause-least
distance-requires-5-clause-least c = subst (λ z. pos 0 ≤ℤ z) (sym (apart _ _ c.args.dx c.l-3.ensures (left_fits c.args.part) c.ranges.dx)) (edges _ _ c.args.part c.args.dx c.args.dy c.requires.filled c.requires.lies).from_left

pub distance-requires-5-clause-most : goal.distance-requires-5-clause-most
distance-requires-5-clause-most c =
    let h = c.ranges.width.fits in
    subst (λ z. z ≤ℤ pos 16777216) (sym (apart _ _ c.args.dx c.l-3.ensures (left_fits c.args.part) c.ranges.dx)) (near _ c.args.part.r c.args.dx c.args.width c.args.part.across (edges _ _ c.args.part c.args.dx c.args.dy c.requires.filled c.requires.lies).from_right (omega arith))

pub distance-requires-6-clause-least : goal.distance-requires-6-clause-least
distance-requires-6-clause-least c = subst (λ z. pos 0 ≤ℤ z) (sym (apart _ _ c.args.dy c.t-3.ensures (top_fits c.args.part) c.ranges.dy)) (edges _ _ c.args.part c.args.dx c.args.dy c.requires.filled c.requires.lies).from_top

pub distance-requires-6-clause-most : goal.distance-requires-6-clause-most
distance-requires-6-clause-most c =
    let h = c.ranges.height.fits in
    subst (λ z. z ≤ℤ pos 16777216) (sym (apart _ _ c.args.dy c.t-3.ensures (top_fits c.args.part) c.ranges.dy)) (near _ c.args.part.b c.args.dy c.args.height c.args.part.down (edges _ _ c.args.part c.args.dx c.args.dy c.requires.filled c.requires.lies).from_bottom (omega arith))

pub carry_block-requires-clause-fits : goal.carry_block-requires-clause-fits
carry_block-requires-clause-fits c = fits _ _ c.args.part c.args.dx c.args.dy _ (edges _ _ c.args.part c.args.dx c.args.dy c.requires.filled c.requires.lies) (record {
  left = c.distance.ensures ∙ apart _ c.args.part.l (pos 0) c.l.ensures (left_fits c.args.part) zero_fits;
  top = c.distance-2.ensures ∙ apart _ c.args.part.t (pos 0) c.t.ensures (top_fits c.args.part) zero_fits;
  columns = c.distance-3.ensures ∙ ends _ _ c.args.part.r c.args.part.l c.r.ensures c.l-2.ensures (right_fits c.args.part) (left_fits c.args.part);
  rows = c.distance-4.ensures ∙ ends _ _ c.args.part.b c.args.part.t c.b.ensures c.t-2.ensures (bottom_fits c.args.part) (top_fits c.args.part);
  from_left = c.distance-5.ensures ∙ apart _ c.args.part.l c.args.dx c.l-3.ensures (left_fits c.args.part) c.ranges.dx;
  from_top = c.distance-6.ensures ∙ apart _ c.args.part.t c.args.dy c.t-3.ensures (top_fits c.args.part) c.ranges.dy;
})

pub returns : goal.returns
returns c = rect_copied _ _ _ _ _ c.args.part c.args.dx c.args.dy _ (record {
  left = c.distance.ensures ∙ apart _ c.args.part.l (pos 0) c.l.ensures (left_fits c.args.part) zero_fits;
  top = c.distance-2.ensures ∙ apart _ c.args.part.t (pos 0) c.t.ensures (top_fits c.args.part) zero_fits;
  columns = c.distance-3.ensures ∙ ends _ _ c.args.part.r c.args.part.l c.r.ensures c.l-2.ensures (right_fits c.args.part) (left_fits c.args.part);
  rows = c.distance-4.ensures ∙ ends _ _ c.args.part.b c.args.part.t c.b.ensures c.t-2.ensures (bottom_fits c.args.part) (top_fits c.args.part);
  from_left = c.distance-5.ensures ∙ apart _ c.args.part.l c.args.dx c.l-3.ensures (left_fits c.args.part) c.ranges.dx;
  from_top = c.distance-6.ensures ∙ apart _ c.args.part.t c.args.dy c.t-3.ensures (top_fits c.args.part) c.ranges.dy;
}) c.carry_block.ensures
