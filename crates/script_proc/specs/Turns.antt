-- What a turn of a worker did.
use Rattle.std.specs.Prelude.{◌≡◌, ◌<◌, ◌≤◌, ◌+◌, ℕ, [], ◌∷◌, ◌++◌}
use Rattle.win_num.specs.declared.message.Thread.{Thread}
use Rattle.user_model.specs.declared.call.Call.{Call}
use Rattle.user_model.specs.declared.entry.Answer.{Answer}
use Rattle.user_model.specs.declared.teller.Told.TheVariants.{Answered, Barred}
use Rattle.user_model.specs.Tellers.{TellerView, HasLooked, CameTo}
use Rattle.script_tree.specs.Tree.{Tree}
use Rattle.script_tree.specs.Pieces.{Trace, End, Whole, Cut}
use Rattle.script_tree.specs.Traces.{IsTrace}
use Rattle.script_proc.specs.declared.program.Program.{Program}
use Rattle.script_proc.specs.declared.worker.Worker.{Worker}
use Rattle.script_proc.specs.declared.turn.Turn.{Turn}
use Rattle.script_proc.specs.declared.turn.Turn.TheVariants.{Went, Idle, Ended, Spent}
use Rattle.script_proc.specs.Workers.{IsWorkerOf, thread_of, uses}

-- who calls for the worker
abbrev pub caller : Worker → Thread
caller w = record { 0 = thread_of w }

-- the trace that the worker stands for ends so
abbrev pub IsCut : Tree → Program → Worker → End → Type 0
IsCut s p w e = (t : ℕ) (tr : Trace) → IsWorkerOf s p t tr w → IsTrace s t tr e

-- the worker stands for the trace that it stood for
pub record Stays (s : Tree) (p : Program) (old new : Worker) : Type 0 where
  pub worker : (t : ℕ) (tr : Trace) → IsWorkerOf s p t tr old → IsWorkerOf s p t tr new
  pub used : uses new ≡ uses old

-- the trace has a next call, and some of the budget is left
pub record CanCall (s : Tree) (p : Program) (w : Worker) (call : Call) : Type 0 where
  pub next : IsCut s p w (Cut call)
  pub left : uses w < s.budget

-- the call was made, and stands with its answer at the end of the trace
pub record HasMadeOne (old new : Worker) (before after : TellerView) (call : Call) : Type 0 where
  pub answer : Answer
  pub told : CameTo before after (caller old) call (Answered answer)
  pub looked : HasLooked before after (thread_of old)
  pub worker : (s : Tree) (p : Program) (t : ℕ) (tr : Trace) → IsWorkerOf s p t tr old → IsWorkerOf s p t (tr ++ (call, answer) ∷ []) new
  pub used : uses new ≡ uses old + 1

-- the call was not made, since the thread is barred
pub record HasMadeNone (before after : TellerView) (who : Thread) (call : Call) : Type 0 where
  pub told : CameTo before after who call Barred
  pub looked : HasLooked before after who.0

-- what came of a call at which the worker stood
abbrev pub Asked : Worker → Worker → TellerView → TellerView → Call → Turn → Type 0
Asked old new before after call Went = HasMadeOne old new before after call
Asked old new before after call Idle = HasMadeNone before after (caller old) call × (new ≡ old)
Asked old new before after call turn = ⊥

-- the next call was made, and stands with its answer at the end of the trace
pub record HasGone (s : Tree) (p : Program) (old new : Worker) (before after : TellerView) : Type 0 where
  pub call : Call
  pub can : CanCall s p old call
  pub answer : Answer
  pub told : CameTo before after (caller old) call (Answered answer)
  pub looked : HasLooked before after (thread_of old)
  pub worker : (t : ℕ) (tr : Trace) → IsWorkerOf s p t tr old → IsWorkerOf s p t (tr ++ (call, answer) ∷ []) new
  pub used : uses new ≡ uses old + 1

-- the next call was not made, since the thread is barred
pub record HasIdled (s : Tree) (p : Program) (old new : Worker) (before after : TellerView) : Type 0 where
  pub call : Call
  pub can : CanCall s p old call
  pub idle : HasMadeNone before after (caller old) call
  pub stays : Stays s p old new

-- the trace is whole
pub record HasEnded (s : Tree) (p : Program) (old new : Worker) : Type 0 where
  pub whole : IsCut s p old Whole
  pub stays : Stays s p old new

-- the trace has a next call, and the budget is used up
pub record HasSpent (s : Tree) (p : Program) (old new : Worker) : Type 0 where
  pub call : Call
  pub next : IsCut s p old (Cut call)
  pub spent : s.budget ≤ uses old
  pub stays : Stays s p old new

-- what the turn did
abbrev pub Did : Tree → Program → Worker → Worker → TellerView → TellerView → Turn → Type 0
Did s p old new before after Went = HasGone s p old new before after
Did s p old new before after Idle = HasIdled s p old new before after
Did s p old new before after Ended = HasEnded s p old new
Did s p old new before after Spent = HasSpent s p old new

-- the turn asked no teller
abbrev pub AsksNobody : Turn → Type 0
AsksNobody Ended = Unit {0}
AsksNobody Spent = Unit {0}
AsksNobody turn = ⊥
