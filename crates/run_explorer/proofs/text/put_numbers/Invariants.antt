use Rattle.std.proofs.Common.{take}
use Rattle.std.specs.List.{flat_map}
use Rattle.user_io.specs.Text.{Adds, operand}
use Rattle.run_explorer.proofs.text.put_numbers.Given as goal

abbrev pub invariant-loop-number : goal.invariant-loop-number
invariant-loop-number l = Adds l.initial.out.items l.out.items (flat_map operand (take l.number-index l.numbers))
