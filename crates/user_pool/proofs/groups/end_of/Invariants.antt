use Rattle.std.proofs.Common.{ℕ, ◌<◌, get_or}
use Rattle.user_pool.specs.Teams.{AreIdle}
use Rattle.user_pool.proofs.groups.end_of.Given as goal

-- each group before this one is idle
abbrev pub invariant-loop-group : goal.invariant-loop-group
invariant-loop-group g l = (i : ℕ) (d : _) → i < l.group-index → AreIdle (g.M.Machine.setup l.machine) (g.M.Machine.past l.machine) (get_or l.groups i d).workers.items
