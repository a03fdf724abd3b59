use Rattle.user_model.proofs.SendStories.{step_law}
use Rattle.user_laws.proofs.sends.stacks_change_at_the_top.Goals as goal

pub returns : goal.returns
returns c = step_law
