use Rattle.screen_buf.specs.Spans.{IsBlocked}
use Rattle.screen_buf.proofs.paint.paint_rect.Given as goal

abbrev pub invariant-loop-y : goal.invariant-loop-y
invariant-loop-y l = IsBlocked l.fn.pixels l.width l.height l.left l.right l.top l.y l.colour l.pixels
