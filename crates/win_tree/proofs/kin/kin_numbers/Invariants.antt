use Rattle.std.proofs.Common.{◌≡◌, take}
use Rattle.win_tree.specs.Kin.{kin_of}
use Rattle.win_tree.proofs.kin.kin_numbers.Given as goal

abbrev pub invariant-loop-i : goal.invariant-loop-i
invariant-loop-i l = l.kin.items ≡ kin_of l.windows (take l.i l.windows) l.w.0
