use Rattle.screen_owners.proofs.Shown.{none_owns}
use Rattle.screen_owners.proofs.laws.hidden_windows_own_nothing.Goals as goal

pub returns : goal.returns
returns c = none_owns
