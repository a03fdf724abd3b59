use Rattle.std.proofs.Common.{◌≡◌, take}
use Rattle.std.specs.Prelude.{map}
use Rattle.call_fields.specs.declared.value.Value.TheVariants as values
use Rattle.call_fields.proofs.messages.number_values.Given as goal

abbrev pub invariant-loop-number : goal.invariant-loop-number
invariant-loop-number l = l.values.items ≡ map (λ n. values.Number n) (take l.number-index l.numbers)
