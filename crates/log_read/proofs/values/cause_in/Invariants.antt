use Rattle.std.proofs.Common.{◌≡◌, drop}
use Rattle.std.specs.Prelude.{find}
use Rattle.std.specs.Str.{bytes_eq}
use Rattle.call_fields.specs.Words.{cause_word}
use Rattle.log_read.proofs.values.cause_in.Given as goal

abbrev pub invariant-loop-cause : goal.invariant-loop-cause
invariant-loop-cause l = find (λ c. bytes_eq (cause_word c) l.word) (drop l.cause-index l.all) ≡ find (λ c. bytes_eq (cause_word c) l.word) l.all
