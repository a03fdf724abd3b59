use Rattle.std.proofs.Common.{◌≡◌}
use Rattle.slab.specs.Slab.{get}
use Rattle.post_queue.specs.Queue.{count_for, count_above}
use Rattle.post_queue.specs.Chains.{posted_at, left_from}
use Rattle.post_queue.proofs.Walks.{IsWalk}
use Rattle.post_queue.proofs.chain.counted.Given as goal

abbrev pub invariant-slots : goal.invariant-slots
invariant-slots l =
    (walk : IsWalk (get l.chain.slots) l.chain.index.entries l.at)
    × (l.count ≡ count_for (posted_at (get l.chain.slots) walk.done) l.w.0)
    × (l.fresh ≡ count_above (posted_at (get l.chain.slots) walk.done) l.w.0 l.look)

abbrev pub decreases-slots : goal.decreases-slots
decreases-slots l = left_from l.at l.chain.index.entries
