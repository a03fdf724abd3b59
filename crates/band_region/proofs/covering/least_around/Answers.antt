use Rattle.std.proofs.Common.{◌<◌, length, arith}
use Rattle.band_region.proofs.Pixels.{spans-start, spans-more, spans-end}
use Rattle.band_region.proofs.covering.least_around.Goals as goal

pub loop-other-init : goal.loop-other-init
loop-other-init c = spans-start _ _

pub loop-other-preserved : goal.loop-other-preserved
loop-other-preserved c =
    let h : c.loop-other.other-index < length c.args.others.now = omega arith in
    spans-more _ _ _ _ _ _ h c.other-item.is c.loop-other.invariant c.joined-around.ensures

pub returns : goal.returns
returns c = spans-end _ _ c.loop-other.other-index _ (omega arith) c.loop-other.invariant
