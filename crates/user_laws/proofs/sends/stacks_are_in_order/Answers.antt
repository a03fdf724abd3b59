use Rattle.user_model.proofs.SendStories.{stack_law}
use Rattle.user_laws.proofs.sends.stacks_are_in_order.Goals as goal

pub returns : goal.returns
returns c = stack_law
