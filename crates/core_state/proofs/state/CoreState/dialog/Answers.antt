use Rattle.std.proofs.Common.{ap, ◌∙◌}
use Rattle.user_model.specs.Dialogs.{dialog}
use Rattle.core_state.specs.States.{Seen}
use Rattle.core_state.proofs.state.CoreState.dialog.Goals as goal

pub returns : goal.returns
returns c = c.on.ensures ∙ c.self.invariant.dialogs c.args.w ∙ ap (λ (v : Seen). dialog v.past c.args.w) c.self.view_is
