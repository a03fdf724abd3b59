use Rattle.std.proofs.Common.{reverse, ap, ◌∙◌}
use Rattle.std.specs.Prelude.{map}
use Rattle.user_model.specs.Past.{Past}
use Rattle.user_model.specs.Idle.{least_of}
use Rattle.user_model.specs.Timers.{due_time, passing_timers}
use Rattle.core_state.specs.States.{Seen}
use Rattle.core_state.proofs.state.CoreState.next_due.Goals as goal

pub returns : goal.returns
returns c =
    let s = c.self.inside in
    let past : Past = reverse s.history.items in
    c.next_due.ensures past c.self.invariant.tree c.self.invariant.timers
    ∙ ap (λ (v : Seen). least_of (map (due_time v.past) (passing_timers v.past c.args.thread c.args.filter))) c.self.view_is
