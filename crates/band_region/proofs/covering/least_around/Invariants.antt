use Rattle.std.proofs.Common.{take}
use Rattle.band_region.proofs.Pixels.{Spans}
use Rattle.band_region.proofs.covering.least_around.Given as goal

abbrev pub invariant-loop-other : goal.invariant-loop-other
invariant-loop-other l = Spans l.fn.first (take l.other-index l.others) l.others l.around
