use Rattle.script_lines.specs.NameLimits.{AreKnown}
use Rattle.app_examples.proofs.reading.words.tell_names.Given as goal

abbrev pub invariant-loop-word : goal.invariant-loop-word
invariant-loop-word g l = AreKnown l.names

abbrev pub invariant-loop-word-3 : goal.invariant-loop-word-3
invariant-loop-word-3 g l = AreKnown l.names
