use Rattle.user_laws.proofs.WordLaws.{ever_done}
use Rattle.user_laws.proofs.words.ever_is_done.Goals as goal

pub returns : goal.returns
returns c = ever_done
