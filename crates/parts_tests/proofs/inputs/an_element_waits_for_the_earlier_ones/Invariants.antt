use Rattle.std.proofs.Common.{◌<◌, All}
use Rattle.parts_tests.proofs.inputs.an_element_waits_for_the_earlier_ones.Given as goal

abbrev pub invariant-loop-number : goal.invariant-loop-number
invariant-loop-number g l = All (λ x. x.number < l.number-counter) l.inputs
