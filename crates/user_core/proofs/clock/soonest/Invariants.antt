use Rattle.std.proofs.Common.{◌≡◌}
use Rattle.user_model.specs.Threads.{from_each}
use Rattle.user_model.specs.Idle.{last_entry, least_of, times_of}
use Rattle.user_core.proofs.clock.soonest.Given as goal

-- the least of the times of the threads before this one
abbrev pub invariant-loop-thread : goal.invariant-loop-thread
invariant-loop-thread l = l.least ≡ least_of (from_each (λ t. times_of l.state.past t (last_entry l.state.past t)) l.thread)
