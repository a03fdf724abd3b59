use Rattle.user_laws.proofs.LastLooks.{look_said}
use Rattle.user_laws.proofs.stands.windows_are_as_last_set.Goals as goal

pub returns : goal.returns
returns c = look_said
