use Rattle.std.proofs.Common.{reverse, ap, ◌∙◌}
use Rattle.std.specs.Prelude.{option_map}
use Rattle.user_model.specs.Past.{Past}
use Rattle.user_model.specs.Timers.{due}
use Rattle.timer_state.specs.TimerLists.{as_due}
use Rattle.core_state.specs.States.{Seen}
use Rattle.core_state.proofs.state.CoreState.due_timer.Goals as goal

pub returns : goal.returns
returns c =
    let s = c.self.inside in
    let past : Past = reverse s.history.items in
    c.due_timer.ensures past c.self.invariant.tree c.self.invariant.timers c.self.invariant.clock
    ∙ ap (λ (v : Seen). option_map (as_due v.past) (due v.past c.args.thread c.args.filter)) c.self.view_is
