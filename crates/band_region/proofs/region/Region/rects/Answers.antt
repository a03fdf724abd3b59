use Rattle.std.proofs.Common.{sym}
use Rattle.band_region.proofs.Sets.{region_at}
use Rattle.band_region.proofs.Shapes.{apart_disjoint}
use Rattle.band_region.proofs.region.Region.rects.Goals as goal

pub returns-clause-disjoint : goal.returns-clause-disjoint
returns-clause-disjoint c =
    let r = region_at (sym c.as_slice.ensures.value) c.self.invariant in
    apart_disjoint _ r.apart
