use Rattle.std.proofs.Common.{◌≡◌, length}
use Rattle.std.specs.Prelude.{map}
use Rattle.script_proc.specs.Workers.{thread_of}
use Rattle.user_pool.specs.Teams.{AreSeated, KeepWorking}
use Rattle.user_pool.proofs.group.Group.pass.Given as goal

abbrev pub invariant-loop-place : goal.invariant-loop-place
invariant-loop-place g l = record {
  seated : AreSeated l.desk l.self.workers.items l.self.seats.items;
  count : length l.self.workers.items ≡ length l.fn.self.workers.items;
  chairs : length l.self.seats.items ≡ length l.self.workers.items;
  threads : map thread_of l.self.workers.items ≡ map thread_of l.fn.self.workers.items;
  works : KeepWorking l.program (g.M.Machine.setup l.desk.opening.machine) (g.M.Machine.past l.desk.opening.machine) l.fn.self.workers.items l.self.workers.items l.fn.self.seats.items l.self.seats.items;
  fed : l.self.starved ≡ l.fn.self.starved;
}
