use Rattle.std.proofs.Common.{◌≡◌, not, None}
use Rattle.user_model.specs.Idle.{is_idle}
use Rattle.user_model.specs.Threads.{lowest}
use Rattle.user_core.proofs.answer.first_busy.Given as goal

-- no thread before this one is busy
abbrev pub invariant-loop-thread : goal.invariant-loop-thread
invariant-loop-thread l = lowest (λ t. not (is_idle l.state.setup l.state.past t)) l.thread ≡ None
