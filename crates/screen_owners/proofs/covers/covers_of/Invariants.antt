use Rattle.std.proofs.Common.{◌≡◌, take, true}
use Rattle.win_num.specs.declared.shapes.Point.{Point}
use Rattle.screen_owners.specs.Owners.{is_within}
use Rattle.screen_owners.specs.Shares.{seen_from}
use Rattle.screen_owners.proofs.Cuts.{AreOf}
use Rattle.screen_owners.proofs.covers.covers_of.Given as goal

abbrev pub invariant-loop-child : goal.invariant-loop-child
invariant-loop-child l = (p : Point) → is_within l.part p ≡ true → AreOf l.tree.live (take l.child-index l.siblings) (seen_from l.corner p) p l.covers.items
