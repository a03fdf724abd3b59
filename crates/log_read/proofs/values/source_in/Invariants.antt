use Rattle.std.proofs.Common.{◌≡◌, drop}
use Rattle.std.specs.Prelude.{find}
use Rattle.std.specs.Str.{bytes_eq}
use Rattle.call_fields.specs.Words.{source_word}
use Rattle.log_read.proofs.values.source_in.Given as goal

abbrev pub invariant-loop-source : goal.invariant-loop-source
invariant-loop-source l = find (λ o. bytes_eq (source_word o) l.word) (drop l.source-index l.all) ≡ find (λ o. bytes_eq (source_word o) l.word) l.all
