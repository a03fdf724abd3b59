use Rattle.std.proofs.Common.{◌≡◌, ℕ, ◌+◌, ◌<◌, [], length, get_or}
use Rattle.user_pool.specs.declared.seat.Seat.{Seat}
use Rattle.user_pool.specs.Seats.{IsSeatOf}
use Rattle.user_pool.proofs.seat.new_seats.Given as goal

abbrev pub invariant-loop-thread : goal.invariant-loop-thread
invariant-loop-thread l = record {
  count : length l.seats.items ≡ l.thread;
  at : (i : ℕ) (d : Seat) → i < length l.seats.items → IsSeatOf l.script l.program [] (i + 1) (get_or l.seats.items i d);
}
