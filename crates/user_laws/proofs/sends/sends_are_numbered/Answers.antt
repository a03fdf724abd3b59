use Rattle.user_model.proofs.SendStories.{number_law}
use Rattle.user_laws.proofs.sends.sends_are_numbered.Goals as goal

pub returns : goal.returns
returns c = number_law
