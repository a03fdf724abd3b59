use Rattle.user_io.specs.Text.{Adds}
use Rattle.user_model.specs.Threads.{from_each}
use Rattle.log_json.specs.Objects.{extra}
use Rattle.log_json.proofs.ending.put_extras.Given as goal

abbrev pub invariant-loop-thread : goal.invariant-loop-thread
invariant-loop-thread g l = Adds l.fn.out.items l.out.items (from_each (extra l.words.script.now (g.M.Machine.past l.machine) l.end) l.thread)
