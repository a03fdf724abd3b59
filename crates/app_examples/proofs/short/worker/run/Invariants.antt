use Rattle.std.proofs.Common.{◌-◌}
use Rattle.script_proc.specs.Workers.{uses}
use Rattle.app_examples.proofs.short.worker.run.Given as goal

-- what is left of the budget
abbrev pub decreases-loop-worker : goal.decreases-loop-worker
decreases-loop-worker g l = l.program.budget - uses l.worker
