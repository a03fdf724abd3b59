use Rattle.std.proofs.Common.{◌≡◌, ◌++◌, take, drop, map}
use Rattle.win_tree.specs.Kin.{doomed_if}
use Rattle.win_tree.proofs.tree.mark_each.Given as goal

abbrev pub invariant-loop-i : goal.invariant-loop-i
invariant-loop-i l = l.windows ≡ map (doomed_if l.initial.windows l.w.0) (take l.i l.initial.windows) ++ drop l.i l.initial.windows
