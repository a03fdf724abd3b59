use Rattle.std.proofs.Common.{◌≡◌, ℕ, ◌<◌, ◌≤◌, [], ◌∷◌, length, take, get_or}
use Rattle.user_pool.specs.Teams.{KeepWorkers, seats_of}
use Rattle.user_pool.proofs.phase.take_back.Given as goal

-- the seats of the groups before this one are taken back
abbrev pub invariant-loop-place : goal.invariant-loop-place
invariant-loop-place g l = record {
  taken : l.seats.items ≡ l.fn.clock ∷ seats_of (take l.place l.fn.groups) (λ x. x.seats.items);
  none : (i : ℕ) (d : _) → i < l.place → (get_or l.groups i d).seats.items ≡ [];
  left : (i : ℕ) (d : _) → l.place ≤ i → i < length l.groups → get_or l.groups i d ≡ get_or l.fn.groups i d;
  workers : KeepWorkers l.fn.groups l.groups (λ x. x.workers.items);
}
