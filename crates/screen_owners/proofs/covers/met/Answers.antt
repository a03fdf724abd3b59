use Rattle.band_region.specs.Regions.{rect_has, region_has}
use Rattle.screen_owners.proofs.Cuts.{unmet}
use Rattle.screen_owners.proofs.covers.met.Goals as goal

pub returns-else-meets : goal.returns-else-meets
returns-else-meets c p has = unmet (region_has c.args.part.now.region p) (rect_has c.args.place p) (c.meets.ensures c.if-meets.false p) has
