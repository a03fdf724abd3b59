use Rattle.std.proofs.Common.{◌≡◌, ◌+◌, false, length}
use Rattle.std.specs.List.{AllByRecursion}
use Rattle.std.specs.Fn.{FnReturnsAt}
use Rattle.slab.specs.Slab.{get}
use Rattle.post_queue.specs.Chains.{posted_at, left_from}
use Rattle.post_queue.proofs.Walks.{IsWalk}
use Rattle.post_queue.proofs.chain.first_in.Given as goal

abbrev pub invariant-slots : goal.invariant-slots
invariant-slots g l =
    (walk : IsWalk (get l.chain.slots) l.chain.index.entries l.at)
    × AllByRecursion (λ q. FnReturnsAt g.F.Fn l.pass q.msg false) (posted_at (get l.chain.slots) walk.done)
    × (l.steps ≡ l.initial.steps + length walk.done)

abbrev pub decreases-slots : goal.decreases-slots
decreases-slots g l = left_from l.at l.chain.index.entries
