use Rattle.std.proofs.Common.{◌<◌, length, arith}
use Rattle.band_region.proofs.Pixels.{found_at, unseen_more}
use Rattle.band_region.proofs.covering.rect_at.Goals as goal

pub returns-then-has-clause-some : goal.returns-then-has-clause-some
returns-then-has-clause-some c =
    let h : c.loop-r.r-index < length c.args.rects.now = omega arith in
    found_at _ _ _ _ h c.r-item.is (c.has.ensures.0 c.if-has.true)

pub loop-r-preserved : goal.loop-r-preserved
loop-r-preserved c =
    let h : c.loop-r.r-index < length c.args.rects.now = omega arith in
    unseen_more _ _ _ _ _ h c.r-item.is c.loop-r.invariant c.has.ensures c.if-has.false
