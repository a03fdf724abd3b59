use Rattle.std.proofs.Common.{◌≡◌, take}
use Rattle.std.specs.Prelude.{map}
use Rattle.script_lines.specs.LineReading.{number_at}
use Rattle.script_text.proofs.head.numbers_of.Given as goal

abbrev pub invariant-loop-word : goal.invariant-loop-word
invariant-loop-word l = l.numbers.items ≡ map number_at (map (λ w. w.now) (take l.word-index l.words))
