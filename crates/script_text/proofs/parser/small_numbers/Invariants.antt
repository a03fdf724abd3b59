use Rattle.std.proofs.Common.{◌≡◌, take}
use Rattle.std.specs.Prelude.{map}
use Rattle.script_text.specs.Reading.{small_number_at}
use Rattle.script_text.proofs.parser.small_numbers.Given as goal

abbrev pub invariant-loop-word : goal.invariant-loop-word
invariant-loop-word l = l.numbers.items ≡ map (small_number_at 255) (map (λ w. w.now) (take l.word-index l.words))
