use Rattle.user_laws.proofs.WordLaws.{stands_exactly, stands_in_order}
use Rattle.user_laws.proofs.words.standing_is_added_for_good.Goals as goal

pub returns-clause-values : goal.returns-clause-values
returns-clause-values g c = stands_exactly

pub returns-clause-order : goal.returns-clause-order
returns-clause-order g c = stands_in_order
