use Rattle.std.proofs.Common.{◌≡◌, ℕ, ◌<◌, [], length, get_or}
use Rattle.user_pool.specs.Teams.{HaveNoSeats, HaveThreads, AreWorkers}
use Rattle.user_pool.proofs.groups.new_groups.Given as goal

-- the workers of the threads before this one stand in their groups
abbrev pub invariant-loop-thread : goal.invariant-loop-thread
invariant-loop-thread g l = record {
  count : length l.made.items ≡ l.groups;
  threads : HaveThreads l.thread l.made.items (λ x. x.workers.items);
  workers : (i : ℕ) (d : _) → i < length l.made.items → AreWorkers l.script l.program [] (get_or l.made.items i d).workers.items;
  none : HaveNoSeats l.made.items (λ x. x.seats.items);
}
