-- What the threads of a replay are kept with.
use Rattle.std.specs.Prelude.{◌≡◌, ℕ, ◌+◌, ◌<◌, List, length, slice_index_or}
use Rattle.user_model.specs.Past.{Past}
use Rattle.script_tree.specs.Tree.{Tree}
use Rattle.script_tree.specs.Traces.{trace_of}
use Rattle.script_proc.specs.declared.program.Program.{Program}
use Rattle.script_proc.specs.declared.worker.Worker.{Worker}
use Rattle.script_proc.specs.Workers.{IsWorkerOf}

-- a worker for each thread, in order, which stands for the thread's entries
pub record WorkersStand (s : Tree) (p : Program) (past : Past) (workers : List Worker) : Type 0 where
  pub count : length workers ≡ length s.threads
  pub at : (i : ℕ) (d : Worker) → i < length workers → IsWorkerOf s p (i + 1) (trace_of past (i + 1)) (slice_index_or workers i d)
