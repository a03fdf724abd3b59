use Rattle.std.proofs.Common.{◌∙◌, sym}
use Rattle.core_deliver.proofs.Admitted.{code_is_reply, no_delivery, row_is_reply}
use Rattle.core_deliver.proofs.calls.write_delivery.Goals as goal

pub returns-in-Some : goal.returns-in-Some
returns-in-Some c =
    let past = c.args.state.now.past in
    let setup = c.args.state.now.setup in
    code_is_reply setup past c.args.who.0 c.args.call.now c.in-Some.code (no_delivery setup past c.args.call.now c.requires) (sym c.admit.ensures ∙ c.in-Some.is)

pub returns-in-None : goal.returns-in-None
returns-in-None c = c.write_delivery_row.ensures ∙ row_is_reply c.args.state.now.setup c.args.state.now.past c.args.who.0 c.args.call.now (sym c.admit.ensures ∙ c.in-None.is)
