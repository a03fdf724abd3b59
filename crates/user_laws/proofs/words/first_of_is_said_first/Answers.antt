use Rattle.user_laws.proofs.WordLaws.{first_said, first_none}
use Rattle.user_laws.proofs.words.first_of_is_said_first.Goals as goal

pub returns-clause-some : goal.returns-clause-some
returns-clause-some g c = first_said

pub returns-clause-none : goal.returns-clause-none
returns-clause-none g c = first_none
