use Rattle.std.proofs.Common.{arith}
use Rattle.std.proofs.lemmas.Int.{ints}
use Rattle.band_region.proofs.Rows.{below_here, below_none, above_more}
use Rattle.band_region.proofs.bands.below.Goals as goal

pub returns-then-b-y : goal.returns-then-b-y
returns-then-b-y c = below_here _ _ _ _ c.loop-place.place _ c.split_at.ensures.back (omega (arith, ints)) c.loop-place-test.true c.index-rects-place.is c.requires c.loop-place.invariant (omega (arith, ints))

pub loop-place-preserved : goal.loop-place-preserved
loop-place-preserved c = above_more _ c.args.y _ c.loop-place.place _ (omega (arith, ints)) c.loop-place-test.true c.index-rects-place.is c.loop-place.invariant (omega (arith, ints))

pub returns : goal.returns
returns c = below_none _ _ _ _ (omega (arith, ints)) c.loop-place-test.false c.loop-place.invariant
