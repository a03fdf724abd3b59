use Rattle.std.proofs.Common.{◌<◌, ◌≤◌, length, refl, arith}
use Rattle.screen_buf.proofs.Rows.{span_step}
use Rattle.screen_buf.proofs.paint.paint_span.Goals as goal

pub loop-place-preserved : goal.loop-place-preserved
loop-place-preserved c =
    let h : c.args.from ≤ c.loop-place.place = c.loop-place.auto.place in
    let w = c.requires.within in
    let k : c.loop-place.place < length c.args.pixels.now = omega arith in
    span_step _ _ _ _ _ _ h k refl c.loop-place.invariant
