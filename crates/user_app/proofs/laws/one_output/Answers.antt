use Rattle.user_app.proofs.SameOutputs.{same_output}
use Rattle.user_app.proofs.laws.one_output.Goals as goal

pub returns : goal.returns
returns c = same_output
