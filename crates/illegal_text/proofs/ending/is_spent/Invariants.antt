use Rattle.std.proofs.Common.{◌≡◌, None}
use Rattle.user_model.specs.Threads.{lowest}
use Rattle.log_text.specs.Ends.{could_go_on}
use Rattle.illegal_text.proofs.ending.is_spent.Given as goal

-- no thread before this one could go on
abbrev pub invariant-loop-thread : goal.invariant-loop-thread
invariant-loop-thread g l = lowest (could_go_on l.script (g.M.Machine.past l.machine)) l.thread ≡ None
