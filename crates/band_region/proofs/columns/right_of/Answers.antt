use Rattle.std.proofs.Common.{arith}
use Rattle.std.proofs.lemmas.Int.{ints}
use Rattle.band_region.proofs.Spans.{right_here, right_gone, ended_more}
use Rattle.band_region.proofs.columns.right_of.Goals as goal

pub returns-then-r-x : goal.returns-then-r-x
returns-then-r-x c = right_here _ _ _ _ c.loop-place.place _ c.split_at.ensures.back (omega (arith, ints)) c.loop-place-test.true c.index-row-place.is c.requires c.loop-place.invariant (omega (arith, ints))

pub loop-place-preserved : goal.loop-place-preserved
loop-place-preserved c = ended_more _ c.args.x _ c.loop-place.place _ (omega (arith, ints)) c.loop-place-test.true c.index-row-place.is c.loop-place.invariant (omega (arith, ints))

pub returns : goal.returns
returns c = right_gone _ _ _ _ (omega (arith, ints)) c.loop-place-test.false c.loop-place.invariant
