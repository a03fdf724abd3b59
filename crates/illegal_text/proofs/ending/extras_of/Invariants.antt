use Rattle.std.proofs.Common.{◌≡◌}
use Rattle.user_model.specs.Threads.{from_each}
use Rattle.log_read.specs.Logs.{extra_of}
use Rattle.illegal_text.proofs.ending.extras_of.Given as goal

abbrev pub invariant-loop-thread : goal.invariant-loop-thread
invariant-loop-thread g l = l.extras.items ≡ from_each (extra_of l.script (g.M.Machine.past l.machine) l.end) l.thread
