use Rattle.std.proofs.Common.{take}
use Rattle.band_region.specs.Regions.{region_has}
use Rattle.screen_buf.specs.Spans.{IsCoated}
use Rattle.screen_buf.proofs.paint.paint_rects.Given as goal

abbrev pub invariant-loop-part : goal.invariant-loop-part
invariant-loop-part l = IsCoated l.fn.pixels l.width l.height (λ p. region_has (take l.part-index l.parts) p) l.colour l.pixels
