use Rattle.std.proofs.Common.{take}
use Rattle.std.specs.Prelude.{map, decimal}
use Rattle.std.specs.List.{flat_map}
use Rattle.user_io.specs.Text.{Adds}
use Rattle.script_lines.specs.LineTexts.{blank_word}
use Rattle.script_text.proofs.writer.put_order.Given as goal

abbrev pub invariant-loop-turn : goal.invariant-loop-turn
invariant-loop-turn l = Adds l.initial.out.items l.out.items (flat_map blank_word (map decimal (take l.turn-index l.order)))
