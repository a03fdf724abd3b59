use Rattle.std.proofs.Common.{ℕ, ◌<◌, get_or}
use Rattle.user_pool.specs.Teams.{AreStopped}
use Rattle.user_pool.proofs.groups.can_move.Given as goal

-- each group before this one is stopped
abbrev pub invariant-loop-group : goal.invariant-loop-group
invariant-loop-group g l = (i : ℕ) (d : _) → i < l.group-index → AreStopped l.script (g.M.Machine.past l.machine) (get_or l.groups i d).workers.items
