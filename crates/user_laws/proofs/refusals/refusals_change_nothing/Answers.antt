use Rattle.user_laws.proofs.KeptByRefusals.{changes_nothing, same_clock_reply, same_reply}
use Rattle.user_laws.proofs.refusals.refusals_change_nothing.Goals as goal

pub returns-clause-values : goal.returns-clause-values
returns-clause-values c = changes_nothing

pub returns-clause-replies : goal.returns-clause-replies
returns-clause-replies c = same_reply

pub returns-clause-clock : goal.returns-clause-clock
returns-clause-clock c = same_clock_reply
