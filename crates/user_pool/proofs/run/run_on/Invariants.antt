use Rattle.std.proofs.Common.{◌≡◌, ◌≤◌, ◌-◌, length, drop}
use Rattle.log_text.specs.Ends.{setup_of}
use Rattle.user_pool.specs.Runs.{last_thread, left, IsRun, IsByChoice}
use Rattle.user_pool.specs.Seats.{SeatsStand}
use Rattle.user_pool.proofs.run.run_on.Given as goal

abbrev pub invariant-loop-chosen : goal.invariant-loop-chosen
invariant-loop-chosen g l = record {
  run : IsRun l.script (g.M.Machine.past l.machine);
  by_choice : IsByChoice l.script (g.M.Machine.past l.machine);
  seats : SeatsStand l.script l.program (g.M.Machine.past l.machine) l.seats.items;
  last : l.last ≡ last_thread (g.M.Machine.past l.machine);
  within : l.place ≤ length l.script.order;
  left : left l.script (g.M.Machine.past l.machine) ≡ drop l.place l.script.order;
  setup : g.M.Machine.setup l.machine ≡ setup_of l.script;
}

-- a run never fills the history
abbrev pub decreases-loop-chosen : goal.decreases-loop-chosen
decreases-loop-chosen g l = 2097152 - length (g.M.Machine.past l.machine)
