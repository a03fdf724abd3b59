use Rattle.user_model.proofs.SendStories.{done_law}
use Rattle.user_laws.proofs.sends.awaits_pop_their_frames.Goals as goal

pub returns : goal.returns
returns c = done_law
