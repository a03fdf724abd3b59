use Rattle.std.proofs.Common.{◌<◌, All}
use Rattle.parts_tests.proofs.inputs.five_hundred_and_thirteen_keys.Given as goal

abbrev pub invariant-loop-number : goal.invariant-loop-number
invariant-loop-number g l = All (λ x. x.number < l.number-counter) l.inputs
