use Rattle.std.proofs.Common.{take}
use Rattle.std.specs.Prelude.{map, decimal}
use Rattle.std.specs.List.{flat_map}
use Rattle.user_io.specs.Text.{Adds}
use Rattle.script_lines.specs.LineTexts.{blank_word}
use Rattle.script_text.proofs.head.put_numbers.Given as goal

abbrev pub invariant-loop-number : goal.invariant-loop-number
invariant-loop-number l = Adds l.initial.out.items l.out.items (flat_map blank_word (map decimal (take l.number-index l.numbers)))
