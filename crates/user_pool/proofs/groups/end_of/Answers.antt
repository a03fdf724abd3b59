use Rattle.std.proofs.Common.{get_or, subst, arith}
use Rattle.log_text.specs.Ends.{setup_of}
use Rattle.user_pool.specs.Teams.{AreIdle, IsOneBusy}
use Rattle.user_pool.proofs.Handing.{one_before}
use Rattle.user_pool.proofs.GroupEnds.{done_is, spent_is}
use Rattle.user_pool.proofs.groups.end_of.Goals as goal

pub loop-group-preserved : goal.loop-group-preserved
loop-group-preserved g c =
    let past = g.M.Machine.past c.args.machine.now in
    one_before (λ x. AreIdle (g.M.Machine.setup c.args.machine.now) past x.workers.items) c.args.groups.now c.loop-group.group-index c.group-item.result c.group-item.is c.loop-group-test.true (c.is_busy.ensures.idle c.if-is_busy.false) c.loop-group.invariant

pub returns-then-is_busy-clause-end : goal.returns-then-is_busy-clause-end
returns-then-is_busy-clause-end g c =
    let past = g.M.Machine.past c.args.machine.now in
    let busy = subst (λ x. IsOneBusy x past c.group-item.result.workers.items) c.requires.setup (c.is_busy.ensures.busy c.if-is_busy.true) in
    spent_is c.args.script.now past c.args.groups.now (λ x. x.workers.items) c.requires.teams.some c.requires.teams.threads c.requires.run c.requires.goes c.requires.stopped c.loop-group.group-index c.group-item.result c.loop-group-test.true
    (subst (λ x. IsOneBusy (setup_of c.args.script.now) past x.workers.items) c.group-item.is busy)

pub returns-clause-end : goal.returns-clause-end
returns-clause-end g c =
    let past = g.M.Machine.past c.args.machine.now in
    done_is c.args.script.now past c.args.groups.now (λ x. x.workers.items) c.requires.teams.some c.requires.teams.threads c.requires.barred c.requires.goes (λ i d lt. subst (λ x. AreIdle x past (get_or c.args.groups.now i d).workers.items) c.requires.setup (c.loop-group.invariant i d (omega arith)))
