use Rattle.std.proofs.Common.{◌≡◌, ℕ, ◌<◌, false, get_or}
use Rattle.user_pool.proofs.phase.is_starved.Given as goal

-- no group before this one met want of memory
abbrev pub invariant-loop-group : goal.invariant-loop-group
invariant-loop-group g l = (i : ℕ) (d : _) → i < l.group-index → (get_or l.groups i d).starved ≡ false
