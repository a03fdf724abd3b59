use Rattle.std.proofs.Common.{length}
use Rattle.script_tree.specs.Tree.{Tree}
use Rattle.script_proc.specs.Programs.{IsProgramOf}
use Rattle.script_proc.specs.Items.{state_at, with_next, KeepsAll}
use Rattle.script_proc.specs.Works.{work}
use Rattle.script_proc.proofs.worker.settle.Given as goal

abbrev pub invariant-steps : goal.invariant-steps
invariant-steps l =
    (s : Tree) → IsProgramOf s l.program → KeepsAll s l.program l.used (with_next l.initial.items.items l.initial.call l.initial.next) (state_at l.initial.variables l.initial.mode l.initial.next) (with_next l.items.items l.call l.ahead) (state_at l.variables l.mode l.ahead)

abbrev pub decreases-steps : goal.decreases-steps
decreases-steps l = work (length l.program.lines.items) l.used (with_next l.items.items l.call l.ahead) (state_at l.variables l.mode l.ahead)
