use Rattle.std.proofs.Common.{List, ℕ, subst}
use Rattle.std.specs.Prelude.{OnErr}
use Rattle.user_io.specs.Outside.{AppendsPart}
use Rattle.log_json.proofs.writer.write_entry.Goals as goal

pub returns-clause-err : goal.returns-clause-err
returns-clause-err g c = subst (λ (l : List ℕ). OnErr c.pass_on.result (AppendsPart (g.K.Sink.holds c.args.sink.now) (g.K.Sink.holds c.pass_on.new.sink) l)) c.in_ok-put_whole_entry.ensures.is c.pass_on.ensures.err
