use Rattle.band_region.proofs.Unique.{one_list}
use Rattle.band_region.proofs.law.one_list_in_bands.Goals as goal

pub returns : goal.returns
returns c = one_list
