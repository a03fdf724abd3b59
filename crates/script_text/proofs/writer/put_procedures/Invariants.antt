use Rattle.std.proofs.Common.{take}
use Rattle.std.specs.List.{flat_map}
use Rattle.user_io.specs.Text.{Adds}
use Rattle.script_lines.specs.Known.{known_of}
use Rattle.script_lines.specs.LineTexts.{line_text}
use Rattle.script_text.specs.Spelling.{procedure_words}
use Rattle.script_text.proofs.writer.put_procedures.Given as goal

abbrev pub invariant-loop-procedure : goal.invariant-loop-procedure
invariant-loop-procedure l = Adds l.initial.out.items l.out.items (flat_map line_text (flat_map (procedure_words (known_of l.script)) (take l.procedure-index l.procedure-items)))
