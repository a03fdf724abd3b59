use Rattle.std.proofs.Common.{ℕ, ◌<◌, get_or}
use Rattle.script_proc.specs.declared.worker.Worker.{Worker}
use Rattle.script_proc.specs.Workers.{thread_of}
use Rattle.user_pool.specs.Teams.{IsStopped}
use Rattle.user_pool.proofs.group.Group.can_move.Given as goal

-- each thread before this one is stopped
abbrev pub invariant-loop-worker : goal.invariant-loop-worker
invariant-loop-worker g l = (i : ℕ) (w : Worker) → i < l.worker-index → IsStopped l.script (g.M.Machine.past l.machine) (thread_of (get_or l.self.workers.items i w))
