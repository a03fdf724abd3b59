use Rattle.std.proofs.Common.{arith}
use Rattle.std.proofs.lemmas.Int.{ints}
use Rattle.window_state.proofs.BoxLaws.{edge_sum, same_edges}
use Rattle.window_state.proofs.boxes.shifted.Goals as goal

pub returns : goal.returns
returns c =
    let place = c.args.place in
    let o = c.args.corner in
    let need = c.requires in
    let across = place.across in
    let down = place.down in
    let near_left = place.left_near in
    let near_top = place.top_near in
    let near_right = place.right_near in
    let near_bottom = place.bottom_near in
    same_edges _ _ _ _ _ _ _ _
    (edge_sum place.l c.l.result c.from.result o.x c.from.ensures c.l.ensures near_left (omega (arith, ints, across, near_right)) need.left need.right)
    (edge_sum place.t c.t.result c.from-2.result o.y c.from-2.ensures c.t.ensures near_top (omega (arith, ints, down, near_bottom)) need.above need.below)
    (edge_sum place.r c.r.result c.from-3.result o.x c.from-3.ensures c.r.ensures (omega (arith, ints, across, near_left)) near_right need.left need.right)
    (edge_sum place.b c.b.result c.from-4.result o.y c.from-4.ensures c.b.ensures (omega (arith, ints, down, near_top)) near_bottom need.above need.below)
