use Rattle.std.proofs.Common.{◌≡◌, ℕ, ◌<◌, true, get_or}
use Rattle.user_model.specs.Idle.{is_barred}
use Rattle.script_proc.specs.declared.worker.Worker.{Worker}
use Rattle.script_proc.specs.Workers.{thread_of}
use Rattle.user_pool.proofs.group.Group.is_busy.Given as goal

-- each thread before this one is idle
abbrev pub invariant-loop-worker : goal.invariant-loop-worker
invariant-loop-worker g l = (i : ℕ) (w : Worker) → i < l.worker-index → is_barred (g.M.Machine.setup l.machine) (g.M.Machine.past l.machine) (thread_of (get_or l.self.workers.items i w)) ≡ true
