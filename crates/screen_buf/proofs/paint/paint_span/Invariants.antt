use Rattle.screen_buf.specs.Spans.{IsSpanned}
use Rattle.screen_buf.proofs.paint.paint_span.Given as goal

abbrev pub invariant-loop-place : goal.invariant-loop-place
invariant-loop-place l = IsSpanned l.fn.pixels l.from l.place l.colour l.pixels
