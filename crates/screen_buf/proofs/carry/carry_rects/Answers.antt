use Rattle.std.proofs.Common.{◌<◌, length, arith, w32}
use Rattle.std.proofs.lemmas.Int.{to_z-of_z}
use Rattle.screen_buf.proofs.Carries.{rects_step, rects_done, part_lies, lies_by, copied_by}
use Rattle.screen_buf.proofs.carry.carry_rects.Goals as goal

pub carry_rect-requires-clause-lies : goal.carry_rect-requires-clause-lies
carry_rect-requires-clause-lies c =
    let h : c.loop-part.part-index < length c.args.parts.now = omega arith in
    lies_by (to_z-of_z w32 c.args.dx c.ranges.dx) (to_z-of_z w32 c.args.dy c.ranges.dy) (part_lies _ _ _ _ c.args.parts.now _ _ h c.part-item.is c.requires.lies)

pub loop-part-preserved : goal.loop-part-preserved
loop-part-preserved c =
    let h : c.loop-part.part-index < length c.args.parts.now = omega arith in
    rects_step _ _ _ _ _ _ _ _ _ _ _ h c.part-item.is c.loop-part.invariant c.carry_rect.ensures

pub returns : goal.returns
returns c = copied_by (to_z-of_z w32 c.args.dx c.ranges.dx) (to_z-of_z w32 c.args.dy c.ranges.dy) (rects_done _ _ _ _ _ _ _ c.args.parts.now c.loop-part.part-index c.loop-part-test.false c.loop-part.invariant)
