use Rattle.std.proofs.Common.{length, subst, ap, ◌∙◌}
use Rattle.std.proofs.lemmas.List.{length-reverse}
use Rattle.log_replay.specs.Replays.{IsRunLog, IsNoRunLog, IsFirstBad}
use Rattle.user_app.specs.Checks.{LegalEnds}
use Rattle.user_app.proofs.CheckEndings.{at_ok, at_err, legal_told, illegal_told}
use Rattle.user_app.proofs.check.check_on.Goals as goal

pub returns-in-Ok-Ok-clause-checked : goal.returns-in-Ok-Ok-clause-checked
returns-in-Ok-Ok-clause-checked g c =
    let past = g.M.Machine.past c.in-Ok-Ok.machine in
    let holds = g.K.Sink.holds c.args.sink.now in
    let holds' = g.K.Sink.holds c.write_legal.new.sink in
    let faults = g.K.Sink.faults c.args.sink.now in
    let faults' = g.K.Sink.faults c.write_legal.new.sink in
    legal_told c.args.script.now c.args.log.now holds holds' faults faults' past c.write_legal.result (at_ok (λ r. IsRunLog c.args.script.now c.args.log.now (g.M.Machine.past r.0)) c.in-Ok-Ok.field-0-is c.in-Ok-Ok.ensures.legal)
    (subst (λ n. LegalEnds n holds holds' faults faults' c.write_legal.result) (ap length c.history.ensures ∙ length-reverse past) c.write_legal.ensures.written)

pub returns-in-Ok-Err-clause-checked : goal.returns-in-Ok-Err-clause-checked
returns-in-Ok-Err-clause-checked g c =
    illegal_told c.args.script.now c.args.log.now (g.K.Sink.holds c.args.sink.now) (g.K.Sink.holds c.tell_illegal.new.sink) (g.K.Sink.faults c.args.sink.now) (g.K.Sink.faults c.tell_illegal.new.sink)
    (g.M.Machine.past c.in-Ok-Err.machine) c.in-Ok-Err.found c.tell_illegal.result (at_err (λ r. IsNoRunLog c.args.script.now c.args.log.now) c.in-Ok-Err.field-0-is c.in-Ok-Err.ensures.no_run)
    (at_err (λ r. IsFirstBad c.args.script.now c.args.log.now (g.M.Machine.past r.1) r.0) c.in-Ok-Err.field-0-is c.in-Ok-Err.ensures.first) c.tell_illegal.ensures.written
