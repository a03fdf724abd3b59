use Rattle.std.proofs.Common.{arith}
use Rattle.win_rows.proofs.Ones.{rising}
use Rattle.win_tree.proofs.tree.Tree.copy.Goals as goal

pub copied-requires : goal.copied-requires
copied-requires c = rising 0 15 c.self.inside.last c.self.inside.rows (omega arith) c.self.invariant.1
