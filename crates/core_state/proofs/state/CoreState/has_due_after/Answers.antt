use Rattle.std.proofs.Common.{reverse, ap, ◌∙◌}
use Rattle.user_model.specs.Past.{Past}
use Rattle.user_model.specs.Since.{has_due_after}
use Rattle.core_state.specs.States.{Seen}
use Rattle.core_state.proofs.state.CoreState.has_due_after.Goals as goal

pub returns : goal.returns
returns c =
    let s = c.self.inside in
    let past : Past = reverse s.history.items in
    c.has_due_after.ensures past c.self.invariant.timers c.self.invariant.clock
    ∙ ap (λ (v : Seen). has_due_after v.past c.args.thread c.args.time) c.self.view_is
