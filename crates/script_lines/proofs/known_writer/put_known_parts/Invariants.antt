use Rattle.std.proofs.Common.{take}
use Rattle.std.specs.List.{flat_map}
use Rattle.user_io.specs.Text.{Adds}
use Rattle.script_lines.specs.LineTexts.{blank_word}
use Rattle.script_lines.specs.Words.{part_word}
use Rattle.script_lines.proofs.known_writer.put_known_parts.Given as goal

abbrev pub invariant-loop-part : goal.invariant-loop-part
invariant-loop-part l = Adds l.initial.out.items l.out.items (flat_map (λ p. blank_word (part_word l.known p)) (take l.part-index l.parts))
