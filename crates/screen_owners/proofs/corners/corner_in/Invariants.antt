use Rattle.std.proofs.Common.{◌≤◌, ◌-◌}
use Rattle.screen_owners.specs.Shares.{IsNear}
use Rattle.screen_owners.proofs.CornerLaws.{IsFrom}
use Rattle.screen_owners.proofs.corners.corner_in.Given as goal

abbrev pub invariant-steps : goal.invariant-steps
invariant-steps l = record {
  up : l.above.0 ≤ l.fn.w.0;
  near : IsNear (l.fn.w.0 - l.above.0) l.corner;
  from : IsFrom l.tree.live l.fn.w l.above l.corner;
}

abbrev pub decreases-steps : goal.decreases-steps
decreases-steps l = l.above.0
