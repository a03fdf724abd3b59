use Rattle.screen_owners.specs.Shares.{IsSharedUpTo}
use Rattle.screen_owners.proofs.shares.shares_of.Given as goal

abbrev pub invariant-loop-k : goal.invariant-loop-k
invariant-loop-k l = IsSharedUpTo l.k l.tree.live l.order l.part l.shares.items
