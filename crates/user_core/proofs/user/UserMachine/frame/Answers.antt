use Rattle.std.proofs.Common.{ap, ◌∙◌}
use Rattle.core_state.specs.States.{Seen}
use Rattle.user_model.specs.Colours.{frame_of}
use Rattle.user_core.proofs.user.UserMachine.frame.Goals as goal

pub returns : goal.returns
returns c = c.frame.ensures ∙ ap (λ (v : Seen). frame_of v.setup v.past c.args.number) c.self.view_is
