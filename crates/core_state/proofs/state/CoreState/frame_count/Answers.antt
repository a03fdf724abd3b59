use Rattle.std.proofs.Common.{length, reverse, ap, ◌∙◌}
use Rattle.user_model.specs.Past.{Past}
use Rattle.user_model.specs.Colours.{snapped}
use Rattle.core_state.specs.States.{Seen}
use Rattle.core_state.proofs.state.CoreState.frame_count.Goals as goal

pub returns : goal.returns
returns c =
    let s = c.self.inside in
    let past : Past = reverse s.history.items in
    c.frame_count.ensures s.setup past c.self.invariant.display
    ∙ ap (λ (v : Seen). length (snapped v.past)) c.self.view_is
