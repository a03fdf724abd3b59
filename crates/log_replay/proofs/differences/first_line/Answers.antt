use Rattle.std.proofs.Common.{length, arith}
use Rattle.log_replay.proofs.Differing.{lines_more, lines_longer}
use Rattle.log_replay.proofs.differences.first_line.Goals as goal

pub loop-place-preserved : goal.loop-place-preserved
loop-place-preserved c = lines_more c.args.found.now c.args.right.now c.loop-place.place _ c.loop-place-test.true c.loop-place.invariant (c.has_line.ensures.0 c.if-not-has_line.false)

pub returns-else-found-right-clause-differ : goal.returns-else-found-right-clause-differ
returns-else-found-right-clause-differ c = lines_longer c.args.found.now c.args.right.now c.loop-place.place c.loop-place-test.false c.loop-place.invariant (λ same. omega (arith, same, c.if-found-right.false))
