use Rattle.screen_buf.specs.Carrying.{IsBlockCarried}
use Rattle.screen_buf.proofs.carry.carry_block.Given as goal

abbrev pub invariant-loop-row : goal.invariant-loop-row
invariant-loop-row l = IsBlockCarried l.fn.pixels l.before l.fn.width l.height l.block l.row l.pixels
