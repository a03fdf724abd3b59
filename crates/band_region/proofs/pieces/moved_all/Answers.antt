use Rattle.std.proofs.Common.{◌<◌, length, arith, w32, FitsSigned}
use Rattle.std.proofs.lemmas.Int.{ints, to_z-of_z}
use Rattle.band_region.proofs.Shapes.{moved_more, moved_done}
use Rattle.band_region.proofs.Pixels.{stays_at}
use Rattle.band_region.proofs.pieces.moved_all.Goals as goal

pub moved-requires-clause-left_near : goal.moved-requires-clause-left_near
moved-requires-clause-left_near c =
    let h : c.loop-part.part-index < length c.args.parts.now = omega arith in
    let s = (stays_at _ _ _ _ _ h c.part-item.is c.requires.filled c.requires.near).left in
    omega (arith, ints)

pub moved-requires-clause-top_near : goal.moved-requires-clause-top_near
moved-requires-clause-top_near c =
    let h : c.loop-part.part-index < length c.args.parts.now = omega arith in
    let s = (stays_at _ _ _ _ _ h c.part-item.is c.requires.filled c.requires.near).top in
    omega (arith, ints)

pub moved-requires-clause-right_near : goal.moved-requires-clause-right_near
moved-requires-clause-right_near c =
    let h : c.loop-part.part-index < length c.args.parts.now = omega arith in
    let s = (stays_at _ _ _ _ _ h c.part-item.is c.requires.filled c.requires.near).right in
    omega (arith, ints)

pub moved-requires-clause-bottom_near : goal.moved-requires-clause-bottom_near
moved-requires-clause-bottom_near c =
    let h : c.loop-part.part-index < length c.args.parts.now = omega arith in
    let s = (stays_at _ _ _ _ _ h c.part-item.is c.requires.filled c.requires.near).bottom in
    omega (arith, ints)

pub loop-part-preserved : goal.loop-part-preserved
loop-part-preserved c =
    let h : c.loop-part.part-index < length c.args.parts.now = omega arith in
    let dx : FitsSigned w32 c.args.dx = c.ranges.dx in
    let dy : FitsSigned w32 c.args.dy = c.ranges.dy in
    let before = simp to_z-of_z at c.loop-part.invariant in
    let by = simp to_z-of_z at c.moved.ensures in
    simp to_z-of_z (moved_more _ _ _ _ _ _ c.args.dx c.args.dy h c.part-item.is before c.in_ok-push.ensures.items by)

pub returns : goal.returns
returns c =
    let dx : FitsSigned w32 c.args.dx = c.ranges.dx in
    let dy : FitsSigned w32 c.args.dy = c.ranges.dy in
    moved_done _ _ c.loop-part.part-index _ _ (omega arith) (simp to_z-of_z at c.loop-part.invariant)
