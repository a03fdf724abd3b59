use Rattle.std.proofs.Common.{take}
use Rattle.std.specs.List.{flat_map}
use Rattle.user_io.specs.Text.{Adds}
use Rattle.log_read.specs.Logs.{log_entry_text}
use Rattle.log_read.proofs.writer.put_entries.Given as goal

abbrev pub invariant-loop-entry : goal.invariant-loop-entry
invariant-loop-entry l = Adds l.initial.out.items l.out.items (flat_map (log_entry_text l.words.script.now) (take l.entry-index l.entries))
