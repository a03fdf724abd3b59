use Rattle.std.proofs.Common.{◌<◌, length, arith}
use Rattle.screen_buf.proofs.Rows.{coat_step, coat_done}
use Rattle.screen_buf.proofs.paint.paint_rects.Goals as goal

pub loop-part-preserved : goal.loop-part-preserved
loop-part-preserved c =
    let h : c.loop-part.part-index < length c.args.parts.now = omega arith in
    coat_step _ _ _ _ _ _ _ _ _ h c.part-item.is c.loop-part.invariant c.paint_rect.ensures

pub returns : goal.returns
returns c = coat_done _ _ _ _ _ _ c.loop-part.part-index c.loop-part-test.false c.loop-part.invariant
