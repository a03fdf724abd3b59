use Rattle.log_replay.proofs.OnePlace.{one_place}
use Rattle.log_replay.proofs.laws.one_first_bad_place.Goals as goal

pub returns : goal.returns
returns c = one_place
