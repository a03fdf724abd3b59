use Rattle.std.proofs.Common.{◌≡◌, ℕ, ◌<◌, [], length, get_or}
use Rattle.user_pool.specs.Teams.{HaveNoSeats}
use Rattle.user_pool.proofs.groups.empty_groups.Given as goal

abbrev pub invariant-loop-number : goal.invariant-loop-number
invariant-loop-number g l = record {
  count : length l.empty.items ≡ l.number;
  none : HaveNoSeats l.empty.items (λ x. x.seats.items);
  empty : (i : ℕ) (d : _) → i < length l.empty.items → (get_or l.empty.items i d).workers.items ≡ [];
}
