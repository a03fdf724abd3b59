use Rattle.std.proofs.Common.{◌≡◌, nat_lt}
use Rattle.std.specs.Prelude.{count_by}
use Rattle.slab.specs.Slab.{get}
use Rattle.post_queue.specs.Chains.{posted_at, left_from}
use Rattle.post_queue.proofs.Walks.{IsWalk}
use Rattle.post_queue.proofs.chain.count_above.Given as goal

abbrev pub invariant-slots : goal.invariant-slots
invariant-slots l =
    (walk : IsWalk (get l.chain.slots) l.chain.index.entries l.at)
    × (l.count ≡ count_by (λ p. nat_lt l.number p.number) (posted_at (get l.chain.slots) walk.done))

abbrev pub decreases-slots : goal.decreases-slots
decreases-slots l = left_from l.at l.chain.index.entries
