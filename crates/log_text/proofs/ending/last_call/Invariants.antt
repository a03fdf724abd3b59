use Rattle.std.proofs.Common.{◌≡◌, take, reverse}
use Rattle.log_text.specs.Endings.{last_call}
use Rattle.log_text.proofs.ending.last_call.Given as goal

abbrev pub invariant-loop-entry : goal.invariant-loop-entry
invariant-loop-entry l = l.last ≡ last_call (reverse (take l.entry-index l.history)) l.thread
