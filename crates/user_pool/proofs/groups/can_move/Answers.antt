use Rattle.user_pool.specs.Teams.{AreStopped}
use Rattle.user_pool.proofs.Handing.{one_before}
use Rattle.user_pool.proofs.groups.can_move.Goals as goal

pub loop-group-preserved : goal.loop-group-preserved
loop-group-preserved g c = one_before (λ x. AreStopped c.args.script.now (g.M.Machine.past c.args.machine.now) x.workers.items) c.args.groups.now c.loop-group.group-index c.group-item.result c.group-item.is c.loop-group-test.true (c.can_move.ensures.stopped c.if-can_move.false) c.loop-group.invariant
