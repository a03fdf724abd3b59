use Rattle.user_model.proofs.SendStories.{answer_law}
use Rattle.user_laws.proofs.sends.answers_stay.Goals as goal

pub returns : goal.returns
returns c = answer_law
