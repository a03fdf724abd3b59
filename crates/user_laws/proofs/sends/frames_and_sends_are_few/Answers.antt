use Rattle.user_model.proofs.SendLimits.{limited}
use Rattle.user_laws.proofs.sends.frames_and_sends_are_few.Goals as goal

pub returns : goal.returns
returns c = limited
