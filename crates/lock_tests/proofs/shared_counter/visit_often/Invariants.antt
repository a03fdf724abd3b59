use Rattle.std.proofs.Common.{◌≡◌}
use Rattle.turn_lock.specs.Seats.{IsSeatOf}
use Rattle.lock_tests.proofs.shared_counter.visit_often.Given as goal

abbrev pub invariant-loop-turn : goal.invariant-loop-turn
invariant-loop-turn g l = IsSeatOf l.fn.lock l.seat × (l.seat.number ≡ l.fn.number)
