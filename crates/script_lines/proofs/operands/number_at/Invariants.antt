use Rattle.std.proofs.Common.{◌≡◌, drop}
use Rattle.script_lines.specs.LineReading.{digits_at}
use Rattle.script_lines.proofs.operands.number_at.Given as goal

abbrev pub invariant-loop-digit : goal.invariant-loop-digit
invariant-loop-digit l = digits_at l.value (drop l.digit-index l.word) ≡ digits_at 0 l.word
