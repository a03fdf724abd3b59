use Rattle.std.proofs.Common.{◌≡◌, take, reverse}
use Rattle.user_model.specs.Places.{clock}
use Rattle.log_text.proofs.summary.clock.Given as goal

abbrev pub invariant-loop-entry : goal.invariant-loop-entry
invariant-loop-entry l = l.now ≡ clock (reverse (take l.entry-index l.history))
