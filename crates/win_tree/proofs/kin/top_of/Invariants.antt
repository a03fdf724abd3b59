use Rattle.std.proofs.Common.{◌≡◌, ◌-◌}
use Rattle.win_tree.specs.Kin.{top_within}
use Rattle.win_tree.proofs.kin.top_of.Given as goal

abbrev pub invariant-steps : goal.invariant-steps
invariant-steps l = top_within (l.fn.w.0 - l.counter) l.windows l.at ≡ top_within l.fn.w.0 l.windows l.fn.w
