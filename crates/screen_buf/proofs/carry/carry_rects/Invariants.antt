use Rattle.std.proofs.Common.{take}
use Rattle.band_region.specs.Regions.{region_has}
use Rattle.screen_buf.specs.Carrying.{IsCopied}
use Rattle.screen_buf.proofs.carry.carry_rects.Given as goal

abbrev pub invariant-loop-part : goal.invariant-loop-part
invariant-loop-part l = IsCopied l.fn.pixels l.before l.width l.height (λ p. region_has (take l.part-index l.parts) p) l.fn.dx l.fn.dy l.pixels
