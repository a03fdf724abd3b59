use Rattle.std.proofs.Common.{take}
use Rattle.screen_owners.specs.Shown.{HasWays}
use Rattle.screen_owners.proofs.corners.boxes_shown.Given as goal

abbrev pub invariant-loop-w : goal.invariant-loop-w
invariant-loop-w l = HasWays l.tree.live l.screen.width l.screen.height (take l.w-index l.windows) l.boxes
