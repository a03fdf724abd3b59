use Rattle.std.proofs.Common.{◌≡◌, ℕ, ◌<◌, ◌==◌, ◌||◌, cond, length, get_or}
use Rattle.std.specs.Int.{bit_at}
use Rattle.input_state.specs.Groups.{link_at}
use Rattle.input_state.proofs.groups.without_thread.Given as goal

abbrev pub invariant-loop-u : goal.invariant-loop-u
invariant-loop-u l = (length l.new ≡ 16) × ((u : ℕ) → u < l.u → (v : ℕ) → v < 16 → bit_at (get_or l.new u 0) v ≡ cond ((u == l.t) || (v == l.t)) 0 (link_at l.links u v))
