use Rattle.std.proofs.Common.{◌<◌, ◌≡◌, ◌∙◌, arith}
use Rattle.std.proofs.lemmas.Int.{to_z-of_z}
use Rattle.screen_buf.specs.Spans.{IsClipped}
use Rattle.screen_buf.proofs.Edges.{left_fits, top_fits, right_fits, bottom_fits}
use Rattle.screen_buf.proofs.Rows.{block_step, block_at, block_done, clipped_most, clipped_order, row_fits, span_within}
use Rattle.screen_buf.proofs.paint.paint_rect.Goals as goal

pub overflow_mul-start : goal.overflow_mul-start
overflow_mul-start c =
    let most = clipped_most _ _ _ c.on_screen-bottom.ensures in
    let h : c.loop-y.y < c.args.height = omega arith in
    let k = row_fits c.loop-y.y c.args.width c.args.height 0 h (omega arith) (omega arith) (omega arith) in
    omega (arith, k)

pub overflow_add-start : goal.overflow_add-start
overflow_add-start c =
    let most = clipped_most _ _ _ c.on_screen-bottom.ensures in
    let h : c.loop-y.y < c.args.height = omega arith in
    let k = row_fits c.loop-y.y c.args.width c.args.height _ h (omega arith) (omega arith) (clipped_most _ _ _ c.on_screen-left.ensures) in
    omega (arith, k)

pub overflow_add-start-in-loop-y : goal.overflow_add-start-in-loop-y
overflow_add-start-in-loop-y c =
    let most = clipped_most _ _ _ c.on_screen-bottom.ensures in
    let h : c.loop-y.y < c.args.height = omega arith in
    let k = row_fits c.loop-y.y c.args.width c.args.height _ h (omega arith) (omega arith) (clipped_most _ _ _ c.on_screen-right.ensures) in
    omega (arith, k)

pub paint_span-requires-clause-ordered : goal.paint_span-requires-clause-ordered
paint_span-requires-clause-ordered c =
    let fl = left_fits c.args.part in
    let fr = right_fits c.args.part in
    let cl : IsClipped c.args.part.l c.args.width c.on_screen-left.result = simp (c.l.ensures, to_z-of_z) at c.on_screen-left.ensures in
    let cr : IsClipped c.args.part.r c.args.width c.on_screen-right.result = simp (c.r.ensures, to_z-of_z) at c.on_screen-right.ensures in
    let o = clipped_order _ _ _ _ _ c.args.part.across cl cr in
    omega (arith, o)

pub paint_span-requires-clause-within : goal.paint_span-requires-clause-within
paint_span-requires-clause-within c =
    let most = clipped_most _ _ _ c.on_screen-bottom.ensures in
    let h : c.loop-y.y < c.args.height = omega arith in
    span_within _ _ _ c.args.height _ (c.loop-y.auto.pixels ∙ c.requires) (clipped_most _ _ _ c.on_screen-right.ensures) h

pub loop-y-preserved : goal.loop-y-preserved
loop-y-preserved c =
    let most = clipped_most _ _ _ c.on_screen-bottom.ensures in
    let h : c.loop-y.y < c.args.height = omega arith in
    block_step _ _ _ _ _ _ _ _ _ _ c.requires (clipped_most _ _ _ c.on_screen-right.ensures) c.loop-y.auto.y h c.loop-y.invariant c.paint_span.ensures

pub returns : goal.returns
returns c =
    let fl = left_fits c.args.part in
    let ft = top_fits c.args.part in
    let fr = right_fits c.args.part in
    let fb = bottom_fits c.args.part in
    let cl : IsClipped c.args.part.l c.args.width c.on_screen-left.result = simp (c.l.ensures, to_z-of_z) at c.on_screen-left.ensures in
    let cr : IsClipped c.args.part.r c.args.width c.on_screen-right.result = simp (c.r.ensures, to_z-of_z) at c.on_screen-right.ensures in
    let ct : IsClipped c.args.part.t c.args.height c.on_screen-top.result = simp (c.t.ensures, to_z-of_z) at c.on_screen-top.ensures in
    let cb : IsClipped c.args.part.b c.args.height c.on_screen-bottom.result = simp (c.b.ensures, to_z-of_z) at c.on_screen-bottom.ensures in
    let o = clipped_order _ _ _ _ _ c.args.part.down ct cb in
    let n = c.loop-y.auto.y-end o in
    let e : c.loop-y.y ≡ c.on_screen-bottom.result = omega arith in
    block_done _ _ _ _ _ _ _ _ _ c.args.part cl cr ct cb (block_at e c.loop-y.invariant)
