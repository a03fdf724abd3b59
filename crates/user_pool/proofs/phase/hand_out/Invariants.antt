use Rattle.std.proofs.Common.{◌≡◌, ◌+◌, ◌<◌, length, drop}
use Rattle.turn_lock.specs.Seats.{new_seats}
use Rattle.user_pool.specs.Teams.{HaveNewSeats, KeepWorkers}
use Rattle.user_pool.proofs.phase.hand_out.Given as goal

-- the seats of the threads before this one are handed out
abbrev pub invariant-loop-thread : goal.invariant-loop-thread
invariant-loop-thread g l = record {
  rest : l.seats.items ≡ drop (l.thread + 1) (new_seats l.desk (l.threads + 1));
  seats : HaveNewSeats l.desk l.thread l.groups (λ x. x.seats.items);
  workers : KeepWorkers l.fn.groups l.groups (λ x. x.workers.items);
  some : 0 < length l.groups;
}
