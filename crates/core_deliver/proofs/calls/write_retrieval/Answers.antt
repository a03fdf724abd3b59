use Rattle.std.proofs.Common.{◌∙◌, sym}
use Rattle.core_deliver.proofs.Admitted.{code_is_reply, no_retrieval, row_is_reply}
use Rattle.core_deliver.proofs.calls.write_retrieval.Goals as goal

pub returns-in-Some-clause-answer : goal.returns-in-Some-clause-answer
returns-in-Some-clause-answer g c =
    let past = c.args.state.now.past in
    let setup = c.args.state.now.setup in
    code_is_reply setup past c.args.who.0 c.args.call.now c.in-Some.code (no_retrieval setup past c.args.call.now c.requires) (sym c.admit.ensures ∙ c.in-Some.is)

pub returns-in-None-clause-answer : goal.returns-in-None-clause-answer
returns-in-None-clause-answer g c = c.write_found.ensures.answer ∙ row_is_reply c.args.state.now.setup c.args.state.now.past c.args.who.0 c.args.call.now (sym c.admit.ensures ∙ c.in-None.is)
