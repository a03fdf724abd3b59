use Rattle.std.proofs.Common.{length}
use Rattle.screen_owners.proofs.covers.+united.Given as goal

abbrev pub decreases-united : goal.decreases-united
decreases-united l = length l.covers.now
