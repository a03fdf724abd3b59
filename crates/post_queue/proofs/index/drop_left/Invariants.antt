use Rattle.std.proofs.Common.{◌≡◌, length}
use Rattle.post_queue.specs.Places.{Rises, kept_in}
use Rattle.post_queue.proofs.index.drop_left.Given as goal

abbrev pub invariant-loop-places : goal.invariant-loop-places
invariant-loop-places l = (kept_in l.places.items ≡ kept_in l.initial.places.items) × Rises 0 l.places.items

abbrev pub decreases-loop-places : goal.decreases-loop-places
decreases-loop-places l = length l.places.items
