use Rattle.std.proofs.Common.{ap, ◌∙◌, reverse}
use Rattle.user_model.specs.Past.{Past}
use Rattle.user_model.specs.Groups.{are_attached}
use Rattle.core_state.specs.States.{Seen}
use Rattle.core_state.proofs.state.CoreState.are_attached.Goals as goal

pub returns : goal.returns
returns c =
    let s = c.self.inside in
    let past : Past = reverse s.history.items in
    c.are_attached.ensures s.setup past c.self.invariant.lawful c.self.invariant.groups
    ∙ ap (λ (v : Seen). are_attached v.past c.args.t c.args.u) c.self.view_is
