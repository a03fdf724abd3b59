use Rattle.user_model.proofs.InputLaws.{last_down-next}
use Rattle.user_laws.proofs.inputs.keys_follow.Goals as goal

pub returns : goal.returns
returns c = λ among key past e. last_down-next among key e past
