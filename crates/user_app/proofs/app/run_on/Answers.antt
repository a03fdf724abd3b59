use Rattle.std.proofs.Common.{◌≡◌, sym, subst}
use Rattle.user_model.specs.Legal.{IsLawful}
use Rattle.user_pool.specs.Runs.{IsListed}
use Rattle.user_app.proofs.RunEnds.{log_told, whole_told}
use Rattle.user_app.proofs.app.run_on.Goals as goal

pub returns-clause-written : goal.returns-clause-written
returns-clause-written g c =
    let past = g.M.Machine.past c.in-Ok.machine in
    log_told IsListed c.write_history-outcome.result c.args.form c.args.script.now (g.K.Sink.holds c.args.sink.now) (g.K.Sink.holds c.write_history-outcome.new.sink) (g.K.Sink.faults c.args.sink.now) (g.K.Sink.faults c.write_history-outcome.new.sink) past c.in-Ok.end c.written_status.result
    c.in-Ok.ensures.run c.in-Ok.ensures.end c.in-Ok.ensures.over c.write_history-outcome.ensures.ok c.write_history-outcome.ensures.err c.write_history-outcome.ensures.failed c.written_status.ensures
    (λ send. c.runs_answer_their_sends.ensures.story c.args.script.now past send c.in-Ok.ensures.run.run) (c.runs_answer_their_sends.ensures.settled c.args.script.now past c.in-Ok.ensures.run.run)

pub returns-clause-whole : goal.returns-clause-whole
returns-clause-whole g c = λ whole. whole_told c.write_history-outcome.result c.in-Ok.end c.written_status.result (g.K.Sink.faults c.write_history-outcome.new.sink ≡ g.K.Sink.faults c.args.sink.now) c.written_status.ensures whole c.write_history-outcome.ensures.unfailed

pub write_history-outcome-requires-clause-lawful : goal.write_history-outcome-requires-clause-lawful
write_history-outcome-requires-clause-lawful g c = subst (λ x. IsLawful x (g.M.Machine.past c.in-Ok.machine)) (sym c.in-Ok.ensures.setup) c.in-Ok.ensures.lawful
