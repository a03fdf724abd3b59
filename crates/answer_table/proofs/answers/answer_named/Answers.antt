use Rattle.std.proofs.Common.{◌≡◌, Bool, Option, ◌++◌, ap, sym, ◌∙◌, subst}
use Rattle.std.specs.Prelude.{IfSome}
use Rattle.std.specs.Str.{bytes_eq}
use Rattle.call_fields.proofs.Finding.{found_further, found_word}
use Rattle.answer_table.specs.declared.answers.AnswerName.{AnswerName}
use Rattle.answer_table.specs.Answers.{all_answers, answer_named, answer_row}
use Rattle.answer_table.specs.Drawing.{drawing_answers}
use Rattle.answer_table.specs.Messages.{message_answers}
use Rattle.answer_table.specs.Plain.{plain_answers}
use Rattle.answer_table.specs.Sends.{send_answers}
use Rattle.answer_table.proofs.AnswerLaws.{named_again}
use Rattle.answer_table.proofs.answers.answer_named.Goals as goal

pub returns-clause-value : goal.returns-clause-value
unfolding answer_named
returns-clause-value c =
    let has : AnswerName → Bool = λ n. bytes_eq (answer_row n).word c.args.word.now in
    let messages = found_further has plain_answers message_answers c.answer_in-found.result c.or_in-found.result c.answer_in-found.ensures c.or_in-found.ensures in
    let sends = found_further has (plain_answers ++ message_answers) send_answers c.or_in-found.result c.or_in-found-2.result messages c.or_in-found-2.ensures in
    found_further has (plain_answers ++ message_answers ++ send_answers) drawing_answers c.or_in-found-2.result c.or_in.result sends c.or_in.ensures

pub returns-clause-found : goal.returns-clause-found
unfolding answer_named
returns-clause-found c = subst (λ (o : Option AnswerName). IfSome o (λ n. (answer_row n).word ≡ c.args.word.now)) (sym (returns-clause-value c)) (found_word (λ n. (answer_row n).word) c.args.word.now all_answers)

pub returns-clause-back : goal.returns-clause-back
returns-clause-back c n same = returns-clause-value c ∙ ap answer_named (sym same) ∙ named_again n
