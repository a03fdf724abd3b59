use Rattle.std.proofs.Common.{◌≡◌, ℕ, ◌%◌, ◌^◌, []}
use Rattle.turn_lock.specs.Views.{waiting}
use Rattle.turn_lock.proofs.turn.take.Given as goal

abbrev pub invariant-loop : goal.invariant-loop
invariant-loop g l = (t : ℕ) × (l.ticket ≡ t % 2 ^ 64) × (l.place ≡ record l.fn.place { me = (waiting t l.fn.place.me.0, []) })
