use Rattle.std.proofs.Common.{◌≡◌, take}
use Rattle.screen_owners.proofs.owners.Owners.copy.Given as goal

abbrev pub invariant-loop-o : goal.invariant-loop-o
invariant-loop-o l = l.entries.items ≡ take l.o-index l.self
