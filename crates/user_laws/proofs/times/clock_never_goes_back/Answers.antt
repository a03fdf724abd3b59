use Rattle.user_model.proofs.TimeLaws.{clock_rises}
use Rattle.user_laws.proofs.times.clock_never_goes_back.Goals as goal

pub returns : goal.returns
returns c = clock_rises
