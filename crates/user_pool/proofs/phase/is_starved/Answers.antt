use Rattle.std.proofs.Common.{◌≡◌, false}
use Rattle.user_pool.proofs.Handing.{one_before}
use Rattle.user_pool.proofs.phase.is_starved.Goals as goal

pub loop-group-preserved : goal.loop-group-preserved
loop-group-preserved g c = one_before (λ x. x.starved ≡ false) c.args.groups.now c.loop-group.group-index c.group-item.result c.group-item.is c.loop-group-test.true c.if-group.false c.loop-group.invariant
