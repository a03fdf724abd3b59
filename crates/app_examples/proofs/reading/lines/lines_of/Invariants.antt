use Rattle.script_lines.specs.NameLimits.{AreKnown}
use Rattle.app_examples.proofs.reading.lines.lines_of.Given as goal

abbrev pub invariant-loop-text : goal.invariant-loop-text
invariant-loop-text l = AreKnown l.names
