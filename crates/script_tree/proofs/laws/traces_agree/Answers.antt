use Rattle.script_tree.proofs.TraceLaws.{agree}
use Rattle.script_tree.proofs.laws.traces_agree.Goals as goal

pub returns : goal.returns
returns c s t tr other e f m k = agree s m k
