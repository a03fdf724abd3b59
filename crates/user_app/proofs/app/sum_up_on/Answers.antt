use Rattle.std.proofs.Common.{◌≡◌}
use Rattle.user_app.proofs.RunEnds.{summary_told, whole_told}
use Rattle.user_app.proofs.app.sum_up_on.Goals as goal

pub returns-clause-written : goal.returns-clause-written
returns-clause-written g c =
    summary_told c.write_summary-outcome.result c.args.number (g.K.Sink.holds c.args.sink.now) (g.K.Sink.holds c.write_summary-outcome.new.sink) (g.K.Sink.faults c.args.sink.now) (g.K.Sink.faults c.write_summary-outcome.new.sink) c.args.script.now (g.M.Machine.past c.in-Ok.machine) c.in-Ok.end c.written_status.result
    c.requires.made c.in-Ok.ensures.run c.in-Ok.ensures.end c.in-Ok.ensures.over c.write_summary-outcome.ensures.ok c.write_summary-outcome.ensures.err c.write_summary-outcome.ensures.failed c.written_status.ensures

pub returns-clause-whole : goal.returns-clause-whole
returns-clause-whole g c = λ whole. whole_told c.write_summary-outcome.result c.in-Ok.end c.written_status.result (g.K.Sink.faults c.write_summary-outcome.new.sink ≡ g.K.Sink.faults c.args.sink.now) c.written_status.ensures whole c.write_summary-outcome.ensures.unfailed
