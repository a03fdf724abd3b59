-- What is kept of the threads in a list, and how it is changed.
use Rattle.std.specs.Prelude.{◌≡◌, ℕ, ◌+◌, ◌-◌, ◌<◌, ◌≤◌, List, length, All, slice_index_or}
use Rattle.thread_state.specs.Threads.{ThreadView}

-- it is the number of a thread
pub record IsOne (threads : List ThreadView) (t : ℕ) : Type 0 where
  pub some : 0 < t
  pub known : t ≤ length threads

-- a post goes to a thread that has room for it, under a number above all that it has
pub record HasRoom (threads : List ThreadView) (t k : ℕ) : Type 0 where
  pub is_one : IsOne threads t
  pub rises : (d : ThreadView) → All (λ p. p.number < k) (slice_index_or threads (t - 1) d).queue.posted
  pub short : (d : ThreadView) → length (slice_index_or threads (t - 1) d).queue.posted < (slice_index_or threads (t - 1) d).queue.limit

-- each thread's part is changed so; threads are numbered from 1
pub record EachBy (change : ℕ → ThreadView → ThreadView) (old new : List ThreadView) : Type 0 where
  pub same_length : length new ≡ length old
  pub at : (i : ℕ) (d : ThreadView) → i < length old → slice_index_or new i d ≡ change (i + 1) (slice_index_or old i d)
