use Rattle.log_read.proofs.OneRefusal.{one_refusal}
use Rattle.log_read.proofs.laws.one_refusal.Goals as goal

pub returns : goal.returns
returns c s bytes a b known = one_refusal s bytes known a b
