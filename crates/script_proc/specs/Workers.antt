-- What a worker stands for.
use Rattle.std.specs.Prelude.{◌≡◌, ◌≤◌, ◌+◌, ℕ, List, ◌++◌, length, Bool, Option, Some, None, vec_len, vec_capacity}
use Rattle.user_model.specs.declared.call.Call.{Call}
use Rattle.script_tree.specs.Tree.{Tree}
use Rattle.script_tree.specs.Pieces.{Piece, Trace, End, Whole, Cut}
use Rattle.script_tree.specs.Traces.{Makes, IsTrace}
use Rattle.script_proc.specs.declared.program.Program.{Program}
use Rattle.script_proc.specs.declared.worker.Worker.{Worker}
use Rattle.script_proc.specs.Programs.{IsProgramOf}
use Rattle.script_proc.specs.declared.item.Item.{Item}
use Rattle.script_proc.specs.Items.{AllCover, mode_at, state_at, with_next, IsNoLine, IsReady, call_if}

-- the thread of the worker
abbrev pub thread_of : Worker → ℕ
thread_of w = w.thread

-- how many entries the worker's thread has made
abbrev pub uses : Worker → ℕ
uses w = w.used

-- what is left to do, the next item last
abbrev pub items_of : Worker → List Item
items_of w = with_next w.items.items w.call w.next

-- the worker stands for this trace of the thread of a script with that program: whatever the pieces make that its items stand for goes on with it, it counts the entries, and the thread is its own
pub record IsWorkerOf (s : Tree) (p : Program) (t : ℕ) (tr : Trace) (w : Worker) : Type 0 where
  pub program : IsProgramOf s p
  pub left : List Piece
  pub stands : AllCover p (items_of w) left
  pub by : (more : Trace) (e : End) → Makes s left (state_at w.variables w.mode w.next) w.used more e → IsTrace s t (tr ++ more) e
  pub counts : w.used ≡ length tr
  pub thread : w.thread ≡ t

-- the worker stands at this call, or its program has ended; and it has room for what follows an answer
pub record IsAt (w : Worker) (next : Option Call) : Type 0 where
  pub ready : IsReady (items_of w) (mode_at w.mode w.next) next
  pub no_line : IsNoLine w.next
  pub room : vec_len w.items + 7 ≤ vec_capacity w.items

-- the call that the worker keeps
abbrev pub call_of : Worker → Call
call_of w = w.call

-- its next call, where there is one
abbrev pub next_of : Worker → Bool → Option Call
next_of w more = call_if w.call more

-- how a trace ends that has this next call
abbrev pub end_of : Option Call → End
end_of None = Whole
end_of (Some call) = Cut call
