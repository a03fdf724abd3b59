use Rattle.std.proofs.Common.{ap, ◌∙◌, reverse}
use Rattle.user_model.specs.Past.{Past}
use Rattle.user_model.specs.Focus.{foreground}
use Rattle.core_state.specs.States.{Seen}
use Rattle.core_state.proofs.state.CoreState.foreground.Goals as goal

pub returns : goal.returns
returns c =
    let s = c.self.inside in
    let past : Past = reverse s.history.items in
    c.foreground.ensures s.setup past c.self.invariant.groups
    ∙ ap (λ (v : Seen). foreground v.past) c.self.view_is
