use Rattle.std.proofs.Common.{◌∙◌, sym}
use Rattle.user_core.proofs.Statuses.{never_waits}
use Rattle.user_core.proofs.answer.would_wait.Goals as goal

pub returns-then-is_status : goal.returns-then-is_status
returns-then-is_status c = sym (never_waits c.args.state.now.setup c.args.state.now.past c.args.thread c.args.call.now (sym c.is_status.ensures ∙ c.if-is_status.true))
