use Rattle.std.proofs.Common.{take}
use Rattle.std.specs.List.{flat_map}
use Rattle.user_io.specs.Text.{Adds}
use Rattle.log_text.specs.Entries.{value_text}
use Rattle.log_text.proofs.entry.put_values.Given as goal

abbrev pub invariant-loop-value : goal.invariant-loop-value
invariant-loop-value l = Adds l.initial.out.items l.out.items (flat_map (value_text l.words.script.now) (take l.value-index l.values))
