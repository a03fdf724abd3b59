use Rattle.std.proofs.Common.{◌≡◌, length, All}
use Rattle.thread_state.specs.Threads.{fresh_thread}
use Rattle.core_state.proofs.state.fresh_threads.Given as goal

abbrev pub invariant-loop : goal.invariant-loop
invariant-loop l = record {
  count : length l.threads.items ≡ l.counter;
  fresh : All (λ s. s ≡ fresh_thread) l.threads.items;
}
