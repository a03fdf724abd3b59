use Rattle.std.proofs.Common.{ap, ◌∙◌}
use Rattle.timer_source.specs.Settings.{has_due}
use Rattle.timer_state.proofs.Reading.{due_since}
use Rattle.timer_state.proofs.finding.has_due_after.Goals as goal

pub returns : goal.returns
returns c = λ past kept now. c.has_due.ensures ∙ ap (has_due c.args.thread c.args.after c.args.time) kept ∙ due_since past c.args.thread c.args.after c.args.time now
