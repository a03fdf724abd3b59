-- What the region's kind says of its pixels tells the kind of the list.
use Rattle.region_box.proofs.Agreement.{kind_told}
use Rattle.region_box.proofs.told.told_kind.Goals as goal

pub returns : goal.returns
returns c = λ width height test h. kind_told width height test c.args.region.now c.kind.result h c.kind.ensures.empty c.kind.ensures.one c.kind.ensures.least c.kind.ensures.most
