use Rattle.std.proofs.Common.{◌≡◌, ◌-◌}
use Rattle.win_tree.specs.Kin.{below_within}
use Rattle.win_tree.proofs.kin.is_below.Given as goal

abbrev pub invariant-steps : goal.invariant-steps
invariant-steps l = below_within (l.fn.w.0 - l.counter) l.windows l.v.0 l.at.0 ≡ below_within l.fn.w.0 l.windows l.v.0 l.fn.w.0
