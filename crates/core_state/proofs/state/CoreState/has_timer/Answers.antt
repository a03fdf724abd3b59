use Rattle.std.proofs.Common.{reverse, ap, ◌∙◌}
use Rattle.std.specs.Prelude.{is_some}
use Rattle.user_model.specs.Past.{Past}
use Rattle.user_model.specs.Timers.{timer}
use Rattle.core_state.specs.States.{Seen}
use Rattle.core_state.proofs.state.CoreState.has_timer.Goals as goal

pub returns : goal.returns
returns c =
    let s = c.self.inside in
    let past : Past = reverse s.history.items in
    c.has_timer.ensures s.setup past c.self.invariant.lawful c.self.invariant.tree c.self.invariant.timers
    ∙ ap (λ (v : Seen). is_some (timer v.past c.args.w c.args.id)) c.self.view_is
