use Rattle.user_pool.specs.Runs.{IsRun}
use Rattle.user_app.specs.declared.request.LogForm.TheVariants.{Plain}
use Rattle.user_app.proofs.CheckEndings.{error_is}
use Rattle.user_app.proofs.InputEndings.{refused_ends, ran_ends}
use Rattle.user_app.proofs.threads.run_input.Goals as goal

pub returns-in-Ok-clause-ends : goal.returns-in-Ok-clause-ends
returns-in-Ok-clause-ends g c =
    ran_ends IsRun Plain (g.S.Source.left c.args.source.now) (g.S.Source.left c.read_script.new.source) (g.K.Sink.holds c.args.sink.now) (g.K.Sink.holds c.run.new.sink) (g.S.Source.faults c.args.source.now) (g.S.Source.faults c.read_script.new.source) (g.K.Sink.faults c.args.sink.now) (g.K.Sink.faults c.run.new.sink)
    c.in-Ok.script c.in-Ok.ensures.script c.in-Ok.ensures.input c.in-Ok.ensures.end c.run.result c.run.ensures.written

pub returns-in-Err-Refused-clause-ends : goal.returns-in-Err-Refused-clause-ends
returns-in-Err-Refused-clause-ends g c =
    refused_ends IsRun Plain (g.S.Source.left c.args.source.now) (g.S.Source.left c.read_script.new.source) (g.K.Sink.holds c.args.sink.now) (g.K.Sink.holds c.refuse.new.sink) (g.S.Source.faults c.args.source.now) (g.S.Source.faults c.read_script.new.source) (g.K.Sink.faults c.args.sink.now) (g.K.Sink.faults c.refuse.new.sink)
    c.in-Err-Refused.refusal c.refuse.result (c.read_script.ensures.refused c.in-Err-Refused.refusal (error_is c.in-Err-Refused.is c.in-Err-Refused.field-0-is)) c.refuse.ensures.written

pub returns-in-Err-Refused-clause-whole : goal.returns-in-Err-Refused-clause-whole
returns-in-Err-Refused-clause-whole g c = λ whole.
    (c.read_script.ensures.unfailed_too c.in-Err-Refused.refusal (error_is c.in-Err-Refused.is c.in-Err-Refused.field-0-is), c.refuse.ensures.whole whole)
