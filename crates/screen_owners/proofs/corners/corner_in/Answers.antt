use Rattle.std.proofs.Common.{◌+◌, ◌-◌, refl, arith}
use Rattle.std.proofs.lemmas.Int.{ints}
use Rattle.screen_owners.proofs.CornerLaws.{from_itself, from_more, from_screen, parent_less}
use Rattle.screen_owners.proofs.ShareLaws.{moved_row, near_more}
use Rattle.screen_owners.proofs.corners.corner_in.Goals as goal

pub steps-init : goal.steps-init
steps-init c = record {
  up = omega arith;
  near = record { left = omega (arith, ints); right = omega (arith, ints); above = omega (arith, ints); below = omega (arith, ints) };
  from = from_itself c.args.tree.now.live c.args.w _ refl refl;
}

pub moved_corner-corner-requires : goal.moved_corner-corner-requires
moved_corner-corner-requires c = near_more (c.args.w.0 - c.steps.above.0) 4294967295 c.steps.corner (omega arith) c.steps.invariant.near

pub steps-preserved : goal.steps-preserved
steps-preserved c =
    let ws = c.args.tree.now.live in
    let above = c.steps.above in
    let row = c.in-Some.row.now in
    let less = parent_less ws c.args.tree.now.last c.requires above row c.in-Some.ensures in
    let moved = moved_row ws above row c.steps.corner c.moved_corner-corner.result c.in-Some.ensures c.moved_corner-corner.ensures.x c.moved_corner-corner.ensures.y in
    record {
      up = omega (arith, less, c.steps.invariant.up);
      near = near_more ((c.args.w.0 - above.0) + 1) (c.args.w.0 - row.parent.0) c.moved_corner-corner.result (omega (arith, less, c.steps.invariant.up)) (moved.near (c.args.w.0 - above.0) c.steps.invariant.near);
      from = from_more ws c.args.tree.now.last c.requires c.args.w above row c.steps.corner c.moved_corner-corner.result c.in-Some.ensures c.moved_corner-corner.ensures.x c.moved_corner-corner.ensures.y c.steps.invariant.from;
    }

pub steps-smaller : goal.steps-smaller
steps-smaller c = parent_less c.args.tree.now.live c.args.tree.now.last c.requires c.steps.above c.in-Some.row.now c.in-Some.ensures

pub returns-clause-near : goal.returns-clause-near
returns-clause-near c = near_more (c.args.w.0 - c.steps.above.0) 4294967295 c.steps.corner (omega arith) c.steps.invariant.near

pub returns-clause-corner : goal.returns-clause-corner
returns-clause-corner c = from_screen c.args.tree.now.live c.args.tree.now.last c.requires c.args.w c.steps.above c.steps.corner c.in_default.ensures c.steps.invariant.from
