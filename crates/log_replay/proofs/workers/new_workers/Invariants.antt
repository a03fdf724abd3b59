use Rattle.std.proofs.Common.{◌≡◌, ℕ, ◌+◌, ◌<◌, [], length, get_or}
use Rattle.script_proc.specs.declared.worker.Worker.{Worker}
use Rattle.script_proc.specs.Workers.{IsWorkerOf}
use Rattle.log_replay.proofs.workers.new_workers.Given as goal

abbrev pub invariant-loop-thread : goal.invariant-loop-thread
invariant-loop-thread l = record {
  count : length l.workers.items ≡ l.thread;
  at : (i : ℕ) (d : Worker) → i < length l.workers.items → IsWorkerOf l.script l.program (i + 1) [] (get_or l.workers.items i d);
}
