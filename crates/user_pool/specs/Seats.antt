-- What the threads of a run are kept with.
use Rattle.std.specs.Prelude.{◌≡◌, ℕ, ◌+◌, ◌<◌, List, length, slice_index_or}
use Rattle.user_model.specs.Past.{Past}
use Rattle.user_model.specs.Places.{has_ended}
use Rattle.script_tree.specs.Tree.{Tree}
use Rattle.script_tree.specs.Traces.{trace_of}
use Rattle.script_proc.specs.declared.program.Program.{Program}
use Rattle.script_proc.specs.Workers.{IsWorkerOf, uses}
use Rattle.user_pool.specs.declared.seat.Seat.{Seat}

-- the thread's worker stands for its entries, and it is known whether the thread has ended
pub record IsSeatOf (s : Tree) (p : Program) (past : Past) (t : ℕ) (seat : Seat) : Type 0 where
  pub worker : IsWorkerOf s p t (trace_of past t) seat.worker
  pub ended : seat.ended ≡ has_ended past t

-- one for each thread, in order
pub record SeatsStand (s : Tree) (p : Program) (past : Past) (seats : List Seat) : Type 0 where
  pub count : length seats ≡ length s.threads
  pub at : (i : ℕ) (d : Seat) → i < length seats → IsSeatOf s p past (i + 1) (slice_index_or seats i d)

-- it is known how many entries the thread has made, and whether it has ended
pub record IsCounted (past : Past) (t : ℕ) (seat : Seat) : Type 0 where
  pub used : uses seat.worker ≡ length (trace_of past t)
  pub ended : seat.ended ≡ has_ended past t

-- the same of each thread, in order
pub record SeatsCount (s : Tree) (past : Past) (seats : List Seat) : Type 0 where
  pub count : length seats ≡ length s.threads
  pub at : (i : ℕ) (d : Seat) → i < length seats → IsCounted past (i + 1) (slice_index_or seats i d)
