use Rattle.std.proofs.Common.{◌<◌, ◌∙◌, arith, rules}
use Rattle.std.proofs.lemmas.Int.{ints}
use Rattle.window_state.proofs.BoxLists.{corner_of_box, near_box}
use Rattle.window_state.proofs.PixelOwners.{same_point}
use Rattle.window_state.proofs.boxes.known_corner.Goals as goal

pub returns-clause-corner : goal.returns-clause-corner
returns-clause-corner c =
    let ws = c.args.tree.now.live in
    let e = c.known_box-place.result in
    let small : c.args.w.0 < 4294967296 = search rules in
    let near = near_box c.requires.ordered.0 ws c.args.w.0 e c.requires.ordered.1 c.known_box-place.ensures small in
    let left = near.left in
    let right = near.right in
    let above = near.above in
    let below = near.below in
    same_point _ _ e.l e.t (omega (arith, ints, left, right)) (omega (arith, ints, above, below)) ∙ corner_of_box c.requires.ordered.0 ws c.args.w.0 e c.requires.ordered.1 c.known_box-place.ensures

pub returns-clause-left : goal.returns-clause-left
returns-clause-left c =
    let small : c.args.w.0 < 4294967296 = search rules in
    let near = near_box c.requires.ordered.0 c.args.tree.now.live c.args.w.0 c.known_box-place.result c.requires.ordered.1 c.known_box-place.ensures small in
    let left = near.left in
    let right = near.right in
    omega (arith, ints, left, right)

pub returns-clause-right : goal.returns-clause-right
returns-clause-right c =
    let small : c.args.w.0 < 4294967296 = search rules in
    let near = near_box c.requires.ordered.0 c.args.tree.now.live c.args.w.0 c.known_box-place.result c.requires.ordered.1 c.known_box-place.ensures small in
    let left = near.left in
    let right = near.right in
    omega (arith, ints, left, right)

pub returns-clause-above : goal.returns-clause-above
returns-clause-above c =
    let small : c.args.w.0 < 4294967296 = search rules in
    let near = near_box c.requires.ordered.0 c.args.tree.now.live c.args.w.0 c.known_box-place.result c.requires.ordered.1 c.known_box-place.ensures small in
    let above = near.above in
    let below = near.below in
    omega (arith, ints, above, below)

pub returns-clause-below : goal.returns-clause-below
returns-clause-below c =
    let small : c.args.w.0 < 4294967296 = search rules in
    let near = near_box c.requires.ordered.0 c.args.tree.now.live c.args.w.0 c.known_box-place.result c.requires.ordered.1 c.known_box-place.ensures small in
    let above = near.above in
    let below = near.below in
    omega (arith, ints, above, below)
