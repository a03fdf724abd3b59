use Rattle.std.proofs.Common.{◌≡◌, ◌≤◌, None}
use Rattle.user_pool.specs.Moves.{first_between}
use Rattle.user_pool.proofs.choice.first_between.Given as goal

-- no thread before this one will do
abbrev pub invariant-loop-thread : goal.invariant-loop-thread
invariant-loop-thread g l = record {
  above : l.low ≤ l.thread;
  none : first_between l.script (g.M.Machine.past l.machine) l.low l.thread ≡ None;
}
