use Rattle.user_pool.specs.Runs.{is_runnable}
use Rattle.user_pool.proofs.Places.{Passes}
use Rattle.user_pool.proofs.choice.next_place.Given as goal

-- no number before this place will do
abbrev pub invariant-loop-place : goal.invariant-loop-place
invariant-loop-place g l = Passes (is_runnable l.script (g.M.Machine.past l.machine)) l.script.order l.from l.place
