use Rattle.std.proofs.Common.{◌≡◌, false}
use Rattle.user_model.specs.Idle.{ends_stuck}
use Rattle.log_text.specs.Ends.{setup_of}
use Rattle.user_pool.specs.Runs.{IsRun}
use Rattle.user_pool.specs.Teams.{AreTeams, HaveNoSeats}
use Rattle.user_pool.proofs.groups.run_groups.Given as goal

-- a run so far, which isn't stuck
abbrev pub invariant-loop : goal.invariant-loop
invariant-loop g l = record {
  setup : g.M.Machine.setup l.machine ≡ setup_of l.script;
  run : IsRun l.script (g.M.Machine.past l.machine);
  goes : ends_stuck (g.M.Machine.past l.machine) ≡ false;
  teams : AreTeams l.script l.program (g.M.Machine.past l.machine) l.groups.items (λ x. x.workers.items);
  none : HaveNoSeats l.groups.items (λ x. x.seats.items);
}
