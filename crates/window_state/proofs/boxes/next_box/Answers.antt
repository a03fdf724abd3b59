use Rattle.std.proofs.Common.{◌∙◌}
use Rattle.window_state.proofs.BoxLists.{box_next, row_parent}
use Rattle.window_state.proofs.boxes.next_box.Goals as goal

pub known_corner-requires-clause-before : goal.known_corner-requires-clause-before
known_corner-requires-clause-before c =
    let row = c.in-Some.row.now in
    c.requires.before row.parent.0 (row_parent c.requires.ordered.0 c.args.tree.now.live c.args.w.0 row c.requires.ordered.1 c.in-Some.ensures)

pub returns-in-Some : goal.returns-in-Some
returns-in-Some c = c.shifted.ensures ∙ box_next c.args.tree.now.live c.args.w.0 c.in-Some.row.now _ c.in-Some.ensures c.known_corner.ensures.corner
