use Rattle.std.proofs.Common.{Some, ap, sym, ◌∙◌}
use Rattle.user_model.specs.Timers.{due}
use Rattle.core_deliver.proofs.DueTimers.{none_handed, timer_handed}
use Rattle.core_deliver.proofs.delivery.next_timer.Goals as goal

pub returns-in-Some : goal.returns-in-Some
returns-in-Some c =
    let past = c.args.state.now.past in
    ap (λ a. Some a) c.got.ensures ∙ timer_handed past (due past c.args.who c.args.filter) c.in-Some.timer (sym c.in-Some.is ∙ c.due_timer.ensures)

pub returns-in-None : goal.returns-in-None
returns-in-None c =
    let past = c.args.state.now.past in
    none_handed past (due past c.args.who c.args.filter) (sym c.in-None.is ∙ c.due_timer.ensures)
