use Rattle.std.proofs.Common.{take}
use Rattle.band_region.specs.Pieces.{IsMoved}
use Rattle.band_region.proofs.pieces.moved_all.Given as goal

abbrev pub invariant-loop-part : goal.invariant-loop-part
invariant-loop-part l = IsMoved (take l.part-index l.parts) l.dx l.dy l.rects.items
