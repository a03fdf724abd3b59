use Rattle.std.proofs.Common.{take}
use Rattle.std.specs.Prelude.{map}
use Rattle.std.specs.List.{flat_map}
use Rattle.user_io.specs.Text.{Adds}
use Rattle.script_lines.specs.Known.{known_of}
use Rattle.script_lines.specs.LineTexts.{line_text}
use Rattle.script_lines.specs.Words.{line_words}
use Rattle.script_text.specs.Lines.{thread_lines}
use Rattle.script_text.proofs.writer.put_threads.Given as goal

abbrev pub invariant-loop-body : goal.invariant-loop-body
invariant-loop-body l = Adds l.initial.out.items l.out.items (flat_map line_text (map (line_words (known_of l.script)) (flat_map thread_lines (take l.body-index l.body-items))))
