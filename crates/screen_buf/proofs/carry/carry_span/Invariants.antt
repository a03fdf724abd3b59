use Rattle.screen_buf.specs.Carrying.{IsSpanCarried}
use Rattle.screen_buf.proofs.carry.carry_span.Given as goal

abbrev pub invariant-loop-i : goal.invariant-loop-i
invariant-loop-i l = IsSpanCarried l.fn.pixels l.before l.to l.from l.i l.pixels
