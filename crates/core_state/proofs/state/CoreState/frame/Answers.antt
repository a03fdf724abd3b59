use Rattle.std.proofs.Common.{reverse, ap, ◌∙◌}
use Rattle.user_model.specs.Past.{Past}
use Rattle.user_model.specs.Colours.{frame_of}
use Rattle.core_state.specs.States.{Seen}
use Rattle.core_state.proofs.state.CoreState.frame.Goals as goal

pub returns : goal.returns
returns c =
    let s = c.self.inside in
    let past : Past = reverse s.history.items in
    c.frame.ensures s.setup past c.self.invariant.display
    ∙ ap (λ (v : Seen). frame_of v.setup v.past c.args.number) c.self.view_is
