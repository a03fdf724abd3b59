use Rattle.look_state.specs.Looks.{IsCovered}
use Rattle.look_state.proofs.NewPixels.{covered_all, covered_more}
use Rattle.look_state.proofs.pixels.are_covered.Goals as goal

pub loop-d-preserved : goal.loop-d-preserved
loop-d-preserved c =
    covered_more (IsCovered c.args.tree.now.live c.args.thread.0 c.args.seen.now) c.args.dirty.now c.loop-d.d-index c.d-item.result c.loop-d-test.true c.d-item.is c.loop-d.invariant
    (c.in_ok-is_covered.ensures.0 c.if-not-branch.false)

pub returns : goal.returns
returns c = covered_all (IsCovered c.args.tree.now.live c.args.thread.0 c.args.seen.now) c.args.dirty.now c.loop-d.d-index c.loop-d-test.false c.loop-d.invariant
