use Rattle.std.proofs.Common.{◌≡◌, drop}
use Rattle.std.specs.Prelude.{find}
use Rattle.std.specs.Str.{bytes_eq}
use Rattle.log_text.specs.Endings.{end_word}
use Rattle.log_read.proofs.ending.end_in.Given as goal

abbrev pub invariant-loop-end : goal.invariant-loop-end
invariant-loop-end l = find (λ e. bytes_eq (end_word e) l.word) (drop l.end-index l.all) ≡ find (λ e. bytes_eq (end_word e) l.word) l.all
