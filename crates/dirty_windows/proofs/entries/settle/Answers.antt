use Rattle.std.proofs.lemmas.Result.{on_ok_weaker}
use Rattle.dirty_windows.proofs.Settling.{settled_nothing, settled_put}
use Rattle.dirty_windows.proofs.entries.settle.Goals as goal

pub returns-then-is_nothing-clause-ok : goal.returns-then-is_nothing-clause-ok
returns-then-is_nothing-clause-ok c = settled_nothing c.args.w.0 c.args.update c.args.entries.now.items _ (c.is_nothing.ensures.area c.if-is_nothing.true) (c.is_nothing.ensures.erases c.if-is_nothing.true) c.remove.ensures.left

pub returns-clause-ok : goal.returns-clause-ok
returns-clause-ok c = on_ok_weaker c.put.result (settled_put c.args.w.0 c.args.update c.args.entries.now.items _) c.put.ensures.ok
