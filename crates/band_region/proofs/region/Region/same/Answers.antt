use Rattle.band_region.proofs.Unique.{same_told}
use Rattle.band_region.proofs.region.Region.same.Goals as goal

pub returns : goal.returns
returns c = same_told _ _ _ _ _ c.self.view_is c.o.view_is c.self.invariant c.o.invariant c.eq.ensures
