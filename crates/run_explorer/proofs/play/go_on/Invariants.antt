use Rattle.std.proofs.Common.{◌≡◌, ◌-◌, ℕ, ◌++◌, List, length}
use Rattle.user_model.specs.Past.{Past}
use Rattle.log_text.specs.Ends.{setup_of}
use Rattle.user_pool.specs.Seats.{SeatsStand}
use Rattle.run_explorer.specs.Steps.{IsAt, IsMadeBy}
use Rattle.run_explorer.specs.Parts.{IsShare}
use Rattle.run_explorer.specs.Searches.{IsOpen, actors}
use Rattle.run_explorer.proofs.play.go_on.Given as goal

abbrev pub invariant-loop-mover : goal.invariant-loop-mover
invariant-loop-mover g l = record {
  made : IsMadeBy l.script l.bound l.steps.items (g.M.Machine.past l.machine);
  along : (rest : List ℕ) × (actors l.steps.items ≡ actors l.fn.steps.items ++ rest);
  at : IsAt l.script (g.M.Machine.past l.machine) l.place.position;
  share : IsShare l.script l.bound l.part.count (g.M.Machine.past l.machine) l.place.share;
  kept : (runs : List Past) → IsOpen l.script l.bound l.part runs (g.M.Machine.past l.fn.machine) → IsOpen l.script l.bound l.part runs (g.M.Machine.past l.machine);
  seats : SeatsStand l.script l.program (g.M.Machine.past l.machine) l.seats.items;
  setup : g.M.Machine.setup l.machine ≡ setup_of l.script;
}

-- a run never fills the history
abbrev pub decreases-loop-mover : goal.decreases-loop-mover
decreases-loop-mover g l = 2097152 - length (g.M.Machine.past l.machine)
