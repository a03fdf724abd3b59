use Rattle.user_model.proofs.SendStories.{sum_law}
use Rattle.user_laws.proofs.sends.all_sends_come_to_an_end.Goals as goal

pub returns : goal.returns
returns c = sum_law
