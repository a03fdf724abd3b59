use Rattle.std.proofs.Common.{◌≡◌, drop}
use Rattle.std.specs.List.{list_any}
use Rattle.win_tree.specs.Kin.{is_under}
use Rattle.win_tree.proofs.kin.has_under.Given as goal

abbrev pub invariant-loop-i : goal.invariant-loop-i
invariant-loop-i l = list_any (is_under l.w.0) (drop l.i l.windows) ≡ list_any (is_under l.w.0) l.windows
