use Rattle.std.proofs.Common.{sym, ◌∙◌}
use Rattle.user_model.specs.declared.call.Call.TheVariants.{Doom}
use Rattle.win_calls.proofs.TurnLaws.{default_leads, alone_leads}
use Rattle.win_calls.proofs.ends.defaults.Goals as goal

pub returns-in-None-clause-follows : goal.returns-in-None-clause-follows
returns-in-None-clause-follows c s n v =
    alone_leads s n c.args.parameters c.default_result-value.result (Doom c.args.parameters.hwnd) c.over.result v (sym c.in-None.is ∙ c.default_begin.ensures) c.default_result-value.ensures c.over.ensures.step

pub returns-in-Some-clause-follows : goal.returns-in-Some-clause-follows
returns-in-Some-clause-follows c s n v =
    default_leads s n c.args.parameters c.in-Some.begin c.default_result-value.result (Doom c.args.parameters.hwnd) c.starts.result v (sym c.in-Some.is ∙ c.default_begin.ensures) c.default_result-value.ensures c.starts.ensures.step
