use Rattle.user_model.proofs.TimeBounds.{clock_small}
use Rattle.user_laws.proofs.times.clock_has_a_bound.Goals as goal

pub returns : goal.returns
returns c = clock_small
