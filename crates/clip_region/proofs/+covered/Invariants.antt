use Rattle.std.proofs.Common.{length}
use Rattle.clip_region.proofs.+covered.Given as goal

abbrev pub decreases-covered : goal.decreases-covered
decreases-covered l = length l.covers.now
