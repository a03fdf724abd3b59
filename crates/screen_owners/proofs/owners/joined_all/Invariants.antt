use Rattle.std.proofs.Common.{◌∷◌, take}
use Rattle.win_rows.specs.Windows.{nobody}
use Rattle.screen_owners.specs.Joined.{AreJoined}
use Rattle.screen_owners.proofs.owners.joined_all.Given as goal

abbrev pub invariant-loop-w : goal.invariant-loop-w
invariant-loop-w l = AreJoined l.part l.old l.new (nobody ∷ take l.w-index l.windows) l.entries.items
