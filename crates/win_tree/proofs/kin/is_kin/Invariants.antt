use Rattle.std.proofs.Common.{◌≡◌, ◌-◌}
use Rattle.win_tree.specs.Kin.{kin_within}
use Rattle.win_tree.proofs.kin.is_kin.Given as goal

abbrev pub invariant-steps : goal.invariant-steps
invariant-steps l = kin_within (l.fn.w.0 - l.counter) l.windows l.v.0 l.at.0 ≡ kin_within l.fn.w.0 l.windows l.v.0 l.fn.w.0
