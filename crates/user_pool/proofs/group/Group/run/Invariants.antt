use Rattle.std.proofs.Common.{◌≡◌}
use Rattle.std.specs.Prelude.{map}
use Rattle.script_proc.specs.Workers.{thread_of}
use Rattle.user_pool.specs.Teams.{AreSeated, KeepWorking}
use Rattle.user_pool.proofs.group.Group.run.Given as goal

abbrev pub invariant-loop : goal.invariant-loop
invariant-loop g l = record {
  seated : AreSeated l.desk l.self.workers.items l.self.seats.items;
  threads : map thread_of l.self.workers.items ≡ map thread_of l.fn.self.workers.items;
  works : KeepWorking l.program (g.M.Machine.setup l.desk.opening.machine) (g.M.Machine.past l.desk.opening.machine) l.fn.self.workers.items l.self.workers.items l.fn.self.seats.items l.self.seats.items;
}
