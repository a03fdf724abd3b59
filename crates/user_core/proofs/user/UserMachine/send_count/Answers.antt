use Rattle.std.proofs.Common.{ap, ◌∙◌}
use Rattle.core_state.specs.States.{Seen}
use Rattle.user_model.specs.Counts.{send_count}
use Rattle.user_core.proofs.user.UserMachine.send_count.Goals as goal

pub returns : goal.returns
returns c = c.send_count.ensures ∙ ap (λ (v : Seen). send_count v.past) c.self.view_is
