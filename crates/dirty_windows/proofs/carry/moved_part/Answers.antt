use Rattle.std.proofs.Common.{◌≡◌, ◌<◌, to_z, of_z, w32, arith}
use Rattle.std.proofs.lemmas.Int.{ints}
use Rattle.dirty_windows.proofs.Carrying.{stays_near}
use Rattle.dirty_windows.proofs.carry.moved_part.Goals as goal

pub shifted-requires : goal.shifted-requires
shifted-requires c =
    let width : c.args.screen.width < 65536 = omega arith in
    let height : c.args.screen.height < 65536 = omega arith in
    let short = c.requires in
    let dx : to_z w32 (of_z w32 c.args.shift.dx) ≡ c.args.shift.dx = omega (arith, ints, short.left, short.right) in
    let dy : to_z w32 (of_z w32 c.args.shift.dy) ≡ c.args.shift.dy = omega (arith, ints, short.above, short.below) in
    stays_near c.in_ok-near.near c.args.part.now c.args.screen.width c.args.screen.height (to_z w32 (of_z w32 c.args.shift.dx)) (to_z w32 (of_z w32 c.args.shift.dy)) width height
    (omega (arith, ints, dx, short.left)) (omega (arith, ints, dx, short.right)) (omega (arith, ints, dy, short.above)) (omega (arith, ints, dy, short.below)) c.in_ok-near.ensures
