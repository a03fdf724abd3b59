use Rattle.user_app.proofs.OneRefusal.{one_refusal}
use Rattle.user_app.proofs.laws.one_refusal.Goals as goal

pub returns : goal.returns
returns c = one_refusal
