use Rattle.user_laws.proofs.WordLaws.{each_added}
use Rattle.user_laws.proofs.words.each_of_is_added.Goals as goal

pub returns : goal.returns
returns g c = each_added
