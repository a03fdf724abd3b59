use Rattle.script_text.proofs.PartsAgain.{one_tree}
use Rattle.script_text.proofs.reader.one_tree.Goals as goal

pub returns : goal.returns
returns c = one_tree
