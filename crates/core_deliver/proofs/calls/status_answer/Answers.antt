use Rattle.std.proofs.Common.{◌∙◌, refl, sym}
use Rattle.user_model.specs.declared.call.Call.TheVariants.{Status}
use Rattle.core_deliver.proofs.Admitted.{code_is_reply, row_is_reply}
use Rattle.core_deliver.proofs.calls.status_answer.Goals as goal

pub returns-in-Some : goal.returns-in-Some
returns-in-Some c = code_is_reply c.args.state.now.setup c.args.state.now.past c.args.who.0 (Status c.args.flags) c.in-Some.code refl (sym c.admit.ensures ∙ c.in-Some.is)

pub returns-in_ok-answer-in-None : goal.returns-in_ok-answer-in-None
returns-in_ok-answer-in-None c = c.in_ok-answer-in-None.ensures ∙ row_is_reply c.args.state.now.setup c.args.state.now.past c.args.who.0 (Status c.args.flags) (sym c.admit.ensures ∙ c.in-None.is)
