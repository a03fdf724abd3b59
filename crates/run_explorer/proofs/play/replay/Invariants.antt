use Rattle.std.proofs.Common.{◌≡◌, ℕ, length}
use Rattle.user_model.specs.Past.{Past}
use Rattle.log_text.specs.Ends.{setup_of}
use Rattle.user_pool.specs.Seats.{SeatsStand}
use Rattle.run_explorer.specs.Steps.{IsMadeBy}
use Rattle.run_explorer.specs.Searches.{GoesOnFrom}
use Rattle.run_explorer.proofs.play.replay.Given as goal

abbrev pub invariant-loop-step : goal.invariant-loop-step
invariant-loop-step g l = record {
  count : length (g.M.Machine.past l.machine) ≡ l.step-index;
  along : (bound : ℕ) (past : Past) → IsMadeBy l.script bound l.steps past → GoesOnFrom past (g.M.Machine.past l.machine);
  seats : SeatsStand l.script l.program (g.M.Machine.past l.machine) l.seats.items;
  setup : g.M.Machine.setup l.machine ≡ setup_of l.script;
}
