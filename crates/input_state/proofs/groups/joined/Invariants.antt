use Rattle.std.proofs.Common.{◌≡◌, ◌↔◌, ◌⊎◌, ℕ, ◌<◌, length, get_or}
use Rattle.std.specs.Int.{bit_at}
use Rattle.input_state.proofs.groups.joined.Given as goal

abbrev pub invariant-loop-t : goal.invariant-loop-t
invariant-loop-t l = (length l.wider ≡ 16) × ((t : ℕ) → t < l.t → (u : ℕ) → (bit_at (get_or l.wider t 0) u ≡ 1) ↔ ((bit_at (get_or l.groups t 0) u ≡ 1) ⊎ ((bit_at (get_or l.groups t 0) l.from ≡ 1) × (bit_at (get_or l.groups l.to 0) u ≡ 1))))
