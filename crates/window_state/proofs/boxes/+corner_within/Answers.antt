use Rattle.std.proofs.Common.{◌∙◌, refl, arith}
use Rattle.std.proofs.lemmas.Int.{ints}
use Rattle.user_model.specs.Pixels.{point}
use Rattle.win_num.specs.PixelSets.{box}
use Rattle.window_state.proofs.BoxLaws.{corner_step, edge_sum}
use Rattle.window_state.proofs.PixelOwners.{same_point}
use Rattle.window_state.proofs.boxes.+corner_within.Goals as goal

pub returns-in-Some-clause-corner : goal.returns-in-Some-clause-corner
returns-in-Some-clause-corner t c =
    let row = c.in-Some.row.now in
    let place = row.place in
    let o = c.corner_within-parent.result in
    let before = c.corner_within-parent.ensures in
    let steps = c.ranges.steps.fits in
    let across = place.across in
    let down = place.down in
    let near_left = place.left_near in
    let near_top = place.top_near in
    let near_right = place.right_near in
    let near_bottom = place.bottom_near in
    let left = before.left in
    let right = before.right in
    let above = before.above in
    let below = before.below in
    same_point _ _ _ _
    (edge_sum place.l c.l.result c.from.result o.x c.from.ensures c.l.ensures near_left (omega (arith, ints, across, near_right)) (omega (arith, ints, steps, left)) (omega (arith, ints, steps, right)))
    (edge_sum place.t c.t.result c.from-in-Some.result o.y c.from-in-Some.ensures c.t.ensures near_top (omega (arith, ints, down, near_bottom)) (omega (arith, ints, steps, above)) (omega (arith, ints, steps, below)))
    ∙ corner_step c.args.steps c.args.tree.now.live c.args.w.0 row (point o.x o.y) (box place.l place.t place.r place.b) c.if-steps-eq0.false c.in-Some.ensures before.corner refl
