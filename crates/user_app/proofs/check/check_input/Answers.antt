use Rattle.user_app.proofs.CheckEndings.{error_is, pair_told, none_told}
use Rattle.user_app.proofs.check.check_input.Goals as goal

pub returns-in-Ok-clause-checked : goal.returns-in-Ok-clause-checked
returns-in-Ok-clause-checked g c =
    pair_told (g.S.Source.left c.args.source.now) (g.S.Source.left c.read_input.new.source) (g.S.Source.faults c.args.source.now) (g.S.Source.faults c.read_input.new.source) (g.K.Sink.holds c.args.sink.now) (g.K.Sink.holds c.check.new.sink) (g.K.Sink.faults c.args.sink.now) (g.K.Sink.faults c.check.new.sink)
    c.in-Ok.script c.in-Ok.log c.check.result c.in-Ok.ensures.input c.check.ensures.checked

pub returns-in-Err-Refused-clause-checked : goal.returns-in-Err-Refused-clause-checked
returns-in-Err-Refused-clause-checked g c =
    none_told (g.S.Source.left c.args.source.now) (g.S.Source.left c.read_input.new.source) (g.S.Source.faults c.args.source.now) (g.S.Source.faults c.read_input.new.source) (g.K.Sink.holds c.args.sink.now) (g.K.Sink.holds c.refuse.new.sink) (g.K.Sink.faults c.args.sink.now) (g.K.Sink.faults c.refuse.new.sink)
    c.in-Err-Refused.refusal c.refuse.result (c.read_input.ensures.refused c.in-Err-Refused.refusal (error_is c.in-Err-Refused.is c.in-Err-Refused.field-0-is)) c.refuse.ensures.written

pub returns-in-Err-Refused-clause-whole : goal.returns-in-Err-Refused-clause-whole
returns-in-Err-Refused-clause-whole g c = λ whole.
    (c.read_input.ensures.unfailed_too c.in-Err-Refused.refusal (error_is c.in-Err-Refused.is c.in-Err-Refused.field-0-is), c.refuse.ensures.whole whole)
