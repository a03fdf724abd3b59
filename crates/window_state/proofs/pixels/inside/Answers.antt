use Rattle.std.proofs.Common.{rules}
use Rattle.std.proofs.lemmas.Int.{to_z-of_z}
use mir.Syntax.{w64}
use Rattle.window_state.proofs.Descents.{all_small, between_edges, inside_row}
use Rattle.window_state.proofs.pixels.inside.Goals as goal

pub behind-requires-2-clause-within : goal.behind-requires-2-clause-within
behind-requires-2-clause-within c =
    let e = c.edges_of-place.result in
    let between = between_edges c.args.tree.now.live c.args.spot.x c.args.spot.y c.args.w c.in-Some.row.now e c.in-Some.ensures c.edges_of-place.ensures c.requires in
    let fit = all_small c.in-Some.row.now.place e c.args.spot.x c.args.spot.y c.edges_of-place.ensures between in
    rw (to_z-of_z w64 e.t fit.top, to_z-of_z w64 e.b fit.bottom, to_z-of_z w64 c.args.spot.y fit.at_y) between.down

pub returns-clause-point : goal.returns-clause-point
returns-clause-point c =
    let e = c.edges_of-place.result in
    let between = between_edges c.args.tree.now.live c.args.spot.x c.args.spot.y c.args.w c.in-Some.row.now e c.in-Some.ensures c.edges_of-place.ensures c.requires in
    let fit = all_small c.in-Some.row.now.place e c.args.spot.x c.args.spot.y c.edges_of-place.ensures between in
    rw (c.behind.ensures, c.behind-2.ensures, to_z-of_z w64 e.l fit.left, to_z-of_z w64 e.t fit.top, to_z-of_z w64 c.args.spot.x fit.at_x, to_z-of_z w64 c.args.spot.y fit.at_y, to_z-of_z w64 _ fit.behind_left, to_z-of_z w64 _ fit.behind_top)
    (inside_row c.args.tree.now.live c.args.spot.x c.args.spot.y c.args.w c.in-Some.row.now e c.in-Some.ensures c.edges_of-place.ensures)

pub behind-requires-clause-left : goal.behind-requires-clause-left
behind-requires-clause-left c = search rules

pub behind-requires-clause-right : goal.behind-requires-clause-right
behind-requires-clause-right c = search rules

pub behind-requires-clause-within : goal.behind-requires-clause-within
behind-requires-clause-within c = search rules

pub behind-requires-2-clause-left : goal.behind-requires-2-clause-left
behind-requires-2-clause-left c = search rules

pub behind-requires-2-clause-right : goal.behind-requires-2-clause-right
behind-requires-2-clause-right c = search rules
