use Rattle.std.proofs.Common.{arith}
use Rattle.dirty_windows.proofs.Exposing.{exposed_all, exposed_first, exposed_more}
use Rattle.dirty_windows.proofs.change.expose_all.Goals as goal

pub loop-owned-init : goal.loop-owned-init
loop-owned-init c = exposed_first c.args.old.now c.args.new.now c.args.moved.now c.args.carried.now c.entries-owners.result.now c.args.entries.now.items c.requires.rising

pub loop-owned-preserved : goal.loop-owned-preserved
loop-owned-preserved c = exposed_more c.args.old.now c.args.new.now c.args.moved.now c.args.carried.now c.entries-owners.result.now c.loop-owned.owned-index c.owned-item.result c.args.entries.now.items c.loop-owned.entries.items _ c.loop-owned-test.true c.owned-item.is c.loop-owned.invariant c.in_ok-expose.ensures

pub returns : goal.returns
returns c = exposed_all c.args.old.now c.args.new.now c.args.moved.now c.args.carried.now c.entries-owners.result.now c.loop-owned.owned-index c.args.entries.now.items c.loop-owned.entries.items c.entries-owners.ensures (omega arith) c.loop-owned.invariant
