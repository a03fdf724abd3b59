use Rattle.std.proofs.Common.{◌≡◌, not, None}
use Rattle.user_model.specs.Places.{has_ended}
use Rattle.user_model.specs.Threads.{lowest}
use Rattle.illegal_text.proofs.ending.have_all_ended.Given as goal

-- each thread before this one has ended
abbrev pub invariant-loop-thread : goal.invariant-loop-thread
invariant-loop-thread g l = lowest (λ t. not (has_ended (g.M.Machine.past l.machine) t)) l.thread ≡ None
