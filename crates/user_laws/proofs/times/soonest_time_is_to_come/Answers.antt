use Rattle.user_model.proofs.TimeLaws.{soonest_later}
use Rattle.user_laws.proofs.times.soonest_time_is_to_come.Goals as goal

pub returns : goal.returns
returns c = soonest_later
