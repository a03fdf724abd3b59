use Rattle.user_model.proofs.SendStories.{send_law}
use Rattle.user_laws.proofs.sends.sends_keep_their_order.Goals as goal

pub returns : goal.returns
returns c = send_law
