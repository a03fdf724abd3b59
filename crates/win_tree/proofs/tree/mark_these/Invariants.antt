use Rattle.std.proofs.Common.{◌≡◌, ◌++◌, take, drop}
use Rattle.win_tree.specs.Kin.{with_marked}
use Rattle.win_tree.proofs.tree.mark_these.Given as goal

abbrev pub invariant-loop-i : goal.invariant-loop-i
invariant-loop-i l = l.windows ≡ with_marked l.kin (take l.i l.initial.windows) ++ drop l.i l.initial.windows
