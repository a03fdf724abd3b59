-- A worker that has gone on to its next call.
use Rattle.std.proofs.Common.{Bool, ℕ, List, Result, Ok, Err, IfOk}
use Rattle.user_model.specs.declared.call.Call.{Call}
use Rattle.script_tree.specs.declared.variables.Variables.{Variables}
use Rattle.script_tree.specs.Tree.{Tree}
use Rattle.script_tree.specs.Pieces.{Trace}
use Rattle.script_tree.specs.Traces.{IsTrace}
use Rattle.script_proc.specs.declared.program.Program.{Program}
use Rattle.script_proc.specs.declared.worker.Worker.{Worker}
use Rattle.script_proc.specs.declared.item.Item.{Item}
use Rattle.script_proc.specs.declared.item.Mode.{Mode}
use Rattle.script_proc.specs.Programs.{IsProgramOf}
use Rattle.script_proc.specs.Items.{state_of, state_at, KeepsAll, IsReady, call_if}
use Rattle.script_proc.specs.Workers.{items_of, IsWorkerOf, end_of}
use Rattle.script_proc.proofs.WorkerLaws.{ready_ends}

-- what is ready is how the trace ends that it stands for
pub next_ends : {E : Type 0} (p : Program) (w : Worker) (items : List Item) (v : Variables) (mode : Mode) (call : Call) (r : Result Bool E) → ((s : Tree) → IsProgramOf s p → KeepsAll s p w.used (items_of w) (state_at w.variables w.mode w.next) items (state_of v mode)) → IfOk r (λ more. IsReady items mode (call_if call more)) → IfOk r (λ more. (s : Tree) (t : ℕ) (tr : Trace) → IsWorkerOf s p t tr w → IsTrace s t tr (end_of (call_if call more)))
next_ends p w items v mode call (Ok more) kept ready = λ s t tr h.
    let k = kept s h.program h.left h.stands in
    ready_ends p s t tr items k.0 v mode w.used (call_if call more) k.1 (λ more e m. h.by more e (k.2.by more e m)) ready
next_ends p w items v mode call (Err e) kept ready = tt
