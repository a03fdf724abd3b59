use Rattle.std.proofs.Common.{length, rules}
use Rattle.window_state.proofs.BoxLists.{box_placed, place_within}
use Rattle.window_state.proofs.boxes.known_box.Goals as goal

pub bounds-boxes-i : goal.bounds-boxes-i
bounds-boxes-i c = place_within c.args.tree.now.live (length c.args.boxes.now) c.in-Some.i c.args.w.0 c.requires.before c.in-Some.ensures

pub offset_bounds-boxes-i : goal.offset_bounds-boxes-i
offset_bounds-boxes-i c = let lt = place_within c.args.tree.now.live (length c.args.boxes.now) c.in-Some.i c.args.w.0 c.requires.before c.in-Some.ensures in search (rules, lt)

pub returns-in-Some : goal.returns-in-Some
returns-in-Some c =
    let ws = c.args.tree.now.live in
    let i = c.in-Some.i in
    box_placed ws c.args.boxes.now i c.args.w.0 _ c.requires.boxes (place_within ws (length c.args.boxes.now) i c.args.w.0 c.requires.before c.in-Some.ensures) c.in-Some.ensures
