use Rattle.std.proofs.Common.{◌≡◌, ◌-◌, length}
use Rattle.win_rows.specs.Windows.{nobody}
use Rattle.user_model.specs.Pixels.{point}
use Rattle.window_state.specs.Pixels.{deepest_in}
use Rattle.window_state.proofs.pixels.deepest.Given as goal

abbrev pub invariant-loop : goal.invariant-loop
invariant-loop l =
    (l.end ≡ length l.tree.live)
    × (deepest_in (l.end - l.counter) l.tree.live l.order (point l.spot.x l.spot.y) l.spot.window ≡ deepest_in (length l.tree.live) l.tree.live l.order (point l.fn.x l.fn.y) nobody)
