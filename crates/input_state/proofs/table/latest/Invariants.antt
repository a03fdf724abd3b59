use Rattle.std.proofs.Common.{◌≡◌, ◌<◌}
use Rattle.input_state.specs.State.{latest_below}
use Rattle.input_state.proofs.table.latest.Given as goal

abbrev pub invariant-loop-n : goal.invariant-loop-n
invariant-loop-n l = (l.best ≡ latest_below l.group l.orders l.row l.n) × (l.best < 16)
