use Rattle.user_laws.proofs.WordLaws.{last_said, last_none}
use Rattle.user_laws.proofs.words.last_of_is_said_last.Goals as goal

pub returns-clause-some : goal.returns-clause-some
returns-clause-some g c = last_said

pub returns-clause-none : goal.returns-clause-none
returns-clause-none g c = last_none
