use Rattle.user_model.specs.Stacks.{stack}
use Rattle.script_tree.specs.Traces.{trace_of}
use Rattle.script_tree.proofs.StackLaws.{thread_fits}
use Rattle.script_tree.proofs.StackPasts.{fits_past, allowed}
use Rattle.script_tree.proofs.laws.calls_fit_the_stack.Goals as goal

pub returns-clause-trace : goal.returns-clause-trace
returns-clause-trace c s t tr call m l = thread_fits s t tr call m l

pub returns-clause-past : goal.returns-clause-past
returns-clause-past c s past t call m l = fits_past past t call (thread_fits s t (trace_of past t) call m l)

pub returns-clause-allowed : goal.returns-clause-allowed
returns-clause-allowed c s past t call m l = allowed call (stack past t) (fits_past past t call (thread_fits s t (trace_of past t) call m l))
