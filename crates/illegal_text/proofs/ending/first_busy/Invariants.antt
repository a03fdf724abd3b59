use Rattle.std.proofs.Common.{◌≡◌, not, None}
use Rattle.user_model.specs.Idle.{is_idle}
use Rattle.user_model.specs.Threads.{lowest}
use Rattle.log_text.specs.Ends.{setup_of}
use Rattle.illegal_text.proofs.ending.first_busy.Given as goal

-- each thread before this one is idle
abbrev pub invariant-loop-thread : goal.invariant-loop-thread
invariant-loop-thread g l = lowest (λ t. not (is_idle (setup_of l.script) (g.M.Machine.past l.machine) t)) l.thread ≡ None
