use Rattle.user_laws.proofs.Standing.{windows_exactly}
use Rattle.user_laws.proofs.stands.windows_live_until_dropped.Goals as goal

pub returns : goal.returns
returns c = windows_exactly
