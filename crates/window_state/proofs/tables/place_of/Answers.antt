use Rattle.std.proofs.Common.{arith, rules}
use mir.Val.{of_z, to_z}
use mir.Syntax.{w32}
use Rattle.window_state.proofs.Outcomes.{fine_rect, has_edges, passed_on}
use Rattle.window_state.proofs.tables.place_of.Goals as goal

pub unwrap-requires : goal.unwrap-requires
unwrap-requires c =
    let el = passed_on c.args.l c.narrow.result c.ranges.l c.narrow.ensures.fits c.narrow.ensures.same in
    let et = passed_on c.args.t c.narrow-2.result c.ranges.t c.narrow-2.ensures.fits c.narrow-2.ensures.same in
    let er = passed_on c.args.r c.narrow-3.result c.ranges.r c.narrow-3.ensures.fits c.narrow-3.ensures.same in
    let eb = passed_on c.args.b c.narrow-4.result c.ranges.b c.narrow-4.ensures.fits c.narrow-4.ensures.same in
    fine_rect c.rect.result (to_z w32 (of_z w32 c.narrow.result)) (to_z w32 (of_z w32 c.narrow-2.result)) (to_z w32 (of_z w32 c.narrow-3.result)) (to_z w32 (of_z w32 c.narrow-4.result)) c.args.l c.args.t c.args.r c.args.b c.rect.ensures.err el et er eb c.requires

pub returns : goal.returns
returns c =
    let el = passed_on c.args.l c.narrow.result c.ranges.l c.narrow.ensures.fits c.narrow.ensures.same in
    let et = passed_on c.args.t c.narrow-2.result c.ranges.t c.narrow-2.ensures.fits c.narrow-2.ensures.same in
    let er = passed_on c.args.r c.narrow-3.result c.ranges.r c.narrow-3.ensures.fits c.narrow-3.ensures.same in
    let eb = passed_on c.args.b c.narrow-4.result c.ranges.b c.narrow-4.ensures.fits c.narrow-4.ensures.same in
    has_edges c.rect.result c.unwrap.result (to_z w32 (of_z w32 c.narrow.result)) (to_z w32 (of_z w32 c.narrow-2.result)) (to_z w32 (of_z w32 c.narrow-3.result)) (to_z w32 (of_z w32 c.narrow-4.result)) c.args.l c.args.t c.args.r c.args.b c.unwrap.ensures c.rect.ensures.ok el et er eb

pub narrow-requires-2 : goal.narrow-requires-2
narrow-requires-2 c = grind arith

pub narrow-requires-3 : goal.narrow-requires-3
narrow-requires-3 c = grind arith

pub narrow-requires-4 : goal.narrow-requires-4
narrow-requires-4 c = search rules
