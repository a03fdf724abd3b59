-- What the threads of a run by groups have done, and what their seats at a desk know of it. A past has its newest entry first.
use Rattle.std.specs.Prelude.{if◌then◌else◌, ◌≡◌, ◌⊎◌, ℕ, zero, suc, ◌<◌, ◌≤◌, ◌%◌, ◌==◌, true, false, List, [], ◌∷◌, ◌++◌, map, length, slice_index_or, All}
use Rattle.win_num.specs.declared.message.Thread.{Thread}
use Rattle.user_model.specs.declared.call.Call.{Call}
use Rattle.user_model.specs.declared.entry.Answer.{Answer}
use Rattle.user_model.specs.declared.entry.Entry.{Entry}
use Rattle.user_model.specs.declared.entry.Setup.{Setup}
use Rattle.user_model.specs.Past.{Past, is_full}
use Rattle.user_model.specs.Places.{mine as entries_of}
use Rattle.user_model.specs.Idle.{is_barred}
use Rattle.script_tree.specs.Tree.{Tree}
use Rattle.script_tree.specs.Traces.{trace_of}
use Rattle.script_proc.specs.declared.program.Program.{Program}
use Rattle.script_proc.specs.declared.worker.Worker.{Worker}
use Rattle.script_proc.specs.Programs.{IsProgramOf}
use Rattle.script_proc.specs.Workers.{IsWorkerOf, thread_of}
use Rattle.log_text.specs.Ends.{setup_of, used}
use Rattle.turn_lock.specs.Seats.{Lock, Sitting, new_seat}
use Rattle.user_desk.specs.Desks.{IsDeskSeat, seen_by, made_by}
use Rattle.user_pool.specs.Interleavings.{IsPart}

-- the threads up to a number of one of so many groups: thread t is of group (t - 1) modulo how many there are
abbrev pub threads_of : ℕ → ℕ → ℕ → List ℕ
threads_of count group zero = []
threads_of count group (suc n) = if n % count == group then threads_of count group n ++ suc n ∷ [] else threads_of count group n

-- each worker stands for all that its thread has made in the past
pub record AreWorkers (s : Tree) (p : Program) (past : Past) (ws : List Worker) : Type 0 where
  pub at : (i : ℕ) (w : Worker) → i < length ws → IsWorkerOf s p (thread_of (slice_index_or ws i w)) (trace_of past (thread_of (slice_index_or ws i w))) (slice_index_or ws i w)

-- some thread of these workers isn't idle
abbrev pub IsOneBusy : Setup → Past → List Worker → Type 0
IsOneBusy setup past ws = (i : ℕ) × (i < length ws) × ((w : Worker) → is_barred setup past (thread_of (slice_index_or ws i w)) ≡ false)

-- all threads of these workers are idle
abbrev pub AreIdle : Setup → Past → List Worker → Type 0
AreIdle setup past ws = All (λ w. is_barred setup past (thread_of w) ≡ true) ws

-- some thread of these workers isn't idle, and has some of its budget left
abbrev pub CanOneMove : Tree → Past → List Worker → Type 0
CanOneMove s past ws = (i : ℕ) × (i < length ws) × ((w : Worker) → (is_barred (setup_of s) past (thread_of (slice_index_or ws i w)) ≡ false) × (used past (thread_of (slice_index_or ws i w)) < s.budget))

-- the thread is idle, or has used its budget up
abbrev pub IsStopped : Tree → Past → ℕ → Type 0
IsStopped s past t = (is_barred (setup_of s) past t ≡ true) ⊎ (s.budget ≤ used past t)

-- the same of all threads of these workers
abbrev pub AreStopped : Tree → Past → List Worker → Type 0
AreStopped s past ws = All (λ w. IsStopped s past (thread_of w)) ws

module _ {T : Type 0} where
  -- each group has the workers of its threads, in order
  abbrev pub HaveThreads : ℕ → List T → (T → List Worker) → Type 0
  HaveThreads threads groups ws = (g : ℕ) (d : T) → g < length groups → map thread_of (ws (slice_index_or groups g d)) ≡ threads_of (length groups) g threads

  -- between two phases: each group has the workers of its threads, which stand for all that these have made
  pub record AreTeams (s : Tree) (p : Program) (past : Past) (groups : List T) (ws : T → List Worker) : Type 0 where
    pub some : 0 < length groups
    pub threads : HaveThreads (length s.threads) groups ws
    pub workers : (g : ℕ) (d : T) → g < length groups → AreWorkers s p past (ws (slice_index_or groups g d))

  -- as many groups, each with the workers that it had
  pub record KeepWorkers (groups now : List T) (ws : T → List Worker) : Type 0 where
    pub count : length now ≡ length groups
    pub at : (g : ℕ) (d : T) → g < length groups → ws (slice_index_or now g d) ≡ ws (slice_index_or groups g d)

-- what a thread has made since the opening, and what its seat has seen since then, is its part of a run: it goes through its program within its budget, and wasn't barred
pub record IsOwnPart (s : Tree) (opening : Past) (t : ℕ) (seen made : Past) : Type 0 where
  pub own : entries_of seen t ≡ made
  pub part : IsPart s (seen ++ opening) t
  pub free : (newer : List Entry) (e : Entry) (before : Past) → seen ≡ newer ++ e ∷ before → e.who.0 ≡ t → is_barred (setup_of s) (before ++ opening) t ≡ false

-- the worker stands for all that its thread has made, unless the history is full
abbrev pub Follows : Tree → Program → Past → ℕ → Past → Worker → Type 0
Follows s p opening t seen w = IsWorkerOf s p t (trace_of (seen ++ opening) t) w ⊎ (is_full (seen ++ opening) ≡ true)

-- the thread has made its part of a run, and its worker goes on from there
pub record HasWorked (s : Tree) (p : Program) (opening : Past) (t : ℕ) (seen made : Past) (w : Worker) : Type 0 where
  pub part : IsOwnPart s opening t seen made
  pub worker : Follows s p opening t seen w

module _ {S : Type 0} where
  -- the worker and the seat are of one thread, and the seat is one of the desk
  abbrev pub IsSeated : Lock S → Worker → Sitting S (Thread × Call) Answer → Type 0
  IsSeated desk w seat = IsDeskSeat desk seat × (thread_of w ≡ seat.number)

  -- each worker has its seat at the same place
  pub record AreSeated (desk : Lock S) (ws : List Worker) (seats : List (Sitting S (Thread × Call) Answer)) : Type 0 where
    pub count : length seats ≡ length ws
    pub at : (i : ℕ) (w : Worker) (seat : Sitting S (Thread × Call) Answer) → i < length ws → IsSeated desk (slice_index_or ws i w) (slice_index_or seats i seat)

  -- the thread with this worker and this seat is at work
  abbrev pub IsAtWork : Tree → Program → Past → Worker → Sitting S (Thread × Call) Answer → Type 0
  IsAtWork s p opening w seat = HasWorked s p opening seat.number (seen_by seat) (made_by seat) w

  -- each thread of a group is at work
  abbrev pub AreAtWork : Tree → Program → Past → List Worker → List (Sitting S (Thread × Call) Answer) → Type 0
  AreAtWork s p opening ws seats = (i : ℕ) (w : Worker) (seat : Sitting S (Thread × Call) Answer) → i < length ws → IsAtWork s p opening (slice_index_or ws i w) (slice_index_or seats i seat)

  -- a thread that was at work still is
  abbrev pub KeepsWorking : Program → Setup → Past → Worker → Worker → Sitting S (Thread × Call) Answer → Sitting S (Thread × Call) Answer → Type 0
  KeepsWorking p setup opening w now seat seat_now = (s : Tree) → IsProgramOf s p → setup ≡ setup_of s → IsAtWork s p opening w seat → IsAtWork s p opening now seat_now

  -- where all threads of a group were at work, they still are
  abbrev pub KeepWorking : Program → Setup → Past → List Worker → List Worker → List (Sitting S (Thread × Call) Answer) → List (Sitting S (Thread × Call) Answer) → Type 0
  KeepWorking p setup opening ws now seats seats_now = (s : Tree) → IsProgramOf s p → setup ≡ setup_of s → AreAtWork s p opening ws seats → AreAtWork s p opening now seats_now

  module _ {T : Type 0} where
    -- no group has a seat
    abbrev pub HaveNoSeats : List T → (T → List (Sitting S (Thread × Call) Answer)) → Type 0
    HaveNoSeats groups seats = (g : ℕ) (d : T) → g < length groups → seats (slice_index_or groups g d) ≡ []

    -- each group has a new seat of the desk for each of its threads up to a number, in order
    abbrev pub HaveNewSeats : Lock S → ℕ → List T → (T → List (Sitting S (Thread × Call) Answer)) → Type 0
    HaveNewSeats desk threads groups seats = (g : ℕ) (d : T) → g < length groups → seats (slice_index_or groups g d) ≡ map (new_seat desk) (threads_of (length groups) g threads)

    -- each group's workers have their seats
    abbrev pub AllSeated : Lock S → List T → (T → List Worker) → (T → List (Sitting S (Thread × Call) Answer)) → Type 0
    AllSeated desk groups ws seats = (g : ℕ) (d : T) → g < length groups → AreSeated desk (ws (slice_index_or groups g d)) (seats (slice_index_or groups g d))

    -- all threads of all groups are at work
    abbrev pub AllAtWork : Tree → Program → Past → List T → (T → List Worker) → (T → List (Sitting S (Thread × Call) Answer)) → Type 0
    AllAtWork s p opening groups ws seats = (g : ℕ) (d : T) → g < length groups → AreAtWork s p opening (ws (slice_index_or groups g d)) (seats (slice_index_or groups g d))

    -- the seats of all groups, one group after the other
    abbrev pub seats_of : List T → (T → List (Sitting S (Thread × Call) Answer)) → List (Sitting S (Thread × Call) Answer)
    seats_of [] seats = []
    seats_of (g ∷ groups) seats = seats g ++ seats_of groups seats
