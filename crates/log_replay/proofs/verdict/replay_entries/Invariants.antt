use Rattle.std.proofs.Common.{◌≡◌, length, take}
use Rattle.log_text.specs.Ends.{setup_of}
use Rattle.log_read.specs.Logs.{log_entries_of}
use Rattle.user_pool.specs.Runs.{IsRun}
use Rattle.log_replay.specs.Workers.{WorkersStand}
use Rattle.log_replay.proofs.verdict.replay_entries.Given as goal

abbrev pub invariant-loop-entry : goal.invariant-loop-entry
invariant-loop-entry g l = record {
  run : IsRun l.script (g.M.Machine.past l.machine);
  workers : WorkersStand l.script l.program (g.M.Machine.past l.machine) l.workers.items;
  setup : g.M.Machine.setup l.machine ≡ setup_of l.script;
  place : l.place ≡ length (g.M.Machine.past l.machine);
  made : take l.entry-index l.entries ≡ log_entries_of l.script (g.M.Machine.past l.machine);
}
