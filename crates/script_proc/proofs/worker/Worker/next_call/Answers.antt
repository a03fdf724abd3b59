use Rattle.std.proofs.Common.{subst}
use Rattle.script_tree.specs.Traces.{IsTrace}
use Rattle.script_proc.specs.Workers.{next_of, end_of}
use Rattle.script_proc.proofs.worker.Worker.next_call.Goals as goal

pub returns-then-branch-clause-next : goal.returns-then-branch-clause-next
returns-then-branch-clause-next c s t tr h = subst (λ b. IsTrace s t tr (end_of (next_of c.go_on.new.self b))) c.if-branch.true (c.in_ok-go_on.ensures.next s t tr h)

pub returns-else-branch-clause-next : goal.returns-else-branch-clause-next
returns-else-branch-clause-next c s t tr h = subst (λ b. IsTrace s t tr (end_of (next_of c.go_on.new.self b))) c.if-branch.false (c.in_ok-go_on.ensures.next s t tr h)
