use Rattle.post_queue.specs.Chains.{left_from}
use Rattle.post_queue.proofs.Purges.{IsPurge}
use Rattle.post_queue.proofs.chain.purge.Given as goal

abbrev pub invariant-slots : goal.invariant-slots
invariant-slots g l = IsPurge (λ w b. g.F.Fn.post l.goes (w, tt) b) l.initial.chain l.chain l.at

abbrev pub decreases-slots : goal.decreases-slots
decreases-slots g l = left_from l.at l.chain.index.entries
