use Rattle.std.proofs.Common.{◌∙◌, sym}
use Rattle.user_core.proofs.Admitted.{code_is_reply, row_is_reply}
use Rattle.user_core.proofs.answer.own_answer.Goals as goal

pub returns-in-Some : goal.returns-in-Some
returns-in-Some c = code_is_reply c.args.state.now.setup c.args.state.now.past c.args.who.0 c.args.call.now c.in-Some.code (sym c.admit.ensures ∙ c.in-Some.is)

pub returns-in-None : goal.returns-in-None
returns-in-None c = c.row_answer.ensures ∙ row_is_reply c.args.state.now.setup c.args.state.now.past c.args.who.0 c.args.call.now (sym c.admit.ensures ∙ c.in-None.is)
