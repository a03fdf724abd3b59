use Rattle.user_model.proofs.SendStories.{leave_law}
use Rattle.user_laws.proofs.sends.leaves_pop_their_frames.Goals as goal

pub returns : goal.returns
returns c = leave_law
