use Rattle.std.proofs.Common.{length}
use Rattle.script_text.proofs.FirstLines.{TakenTo}
use Rattle.script_text.proofs.reading.Reading.take_all.Given as goal

abbrev pub invariant-loop-rest : goal.invariant-loop-rest
invariant-loop-rest l = TakenTo l.bytes l.self l.before l.rest

abbrev pub decreases-loop-rest : goal.decreases-loop-rest
decreases-loop-rest l = length l.rest
