use Rattle.std.proofs.Common.{◌≡◌, ◌<◌, false, length, sym, ap, ◌∙◌, subst, arith}
use Rattle.user_pool.specs.Teams.{AreAtWork}
use Rattle.user_pool.proofs.phase.run_all.Goals as goal

pub returns-clause-works : goal.returns-clause-works
returns-clause-works g c = λ k d lt fed.
    let s = c.args.script.now in
    let p = c.args.program.now in
    let opening = g.M.Machine.past c.args.desk.now.opening.machine in
    let before : k < length c.args.groups.now = omega (arith, lt, c.for_each_mut.auto.s) in
    let at = (c.for_each_mut.ensures k d before).1 in
    let worked = subst (λ x. AreAtWork s p opening x.workers.items x.seats.items) (sym at.argument_is) (c.requires.works k d before) in
    let still_fed : at.after_call.now.starved ≡ false = ap (λ x. x.starved) at.left ∙ fed in
    subst (λ x. AreAtWork s p opening x.workers.items x.seats.items) at.left (at.call.1.1 still_fed s c.requires.program c.requires.setup worked)
