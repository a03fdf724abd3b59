use Rattle.std.proofs.Common.{◌≡◌, drop}
use Rattle.std.specs.Prelude.{find}
use Rattle.std.specs.Str.{bytes_eq}
use Rattle.answer_table.specs.Answers.{answer_row}
use Rattle.answer_table.proofs.answers.answer_in.Given as goal

abbrev pub invariant-loop-name : goal.invariant-loop-name
invariant-loop-name l = find (λ n. bytes_eq (answer_row n).word l.word) (drop l.name-index l.answers) ≡ find (λ n. bytes_eq (answer_row n).word l.word) l.answers
