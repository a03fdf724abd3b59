use Rattle.std.proofs.Common.{◌≡◌, sym, ap, ◌∙◌}
use Rattle.answer_table.specs.declared.answers.AnswerName.{AnswerName}
use Rattle.answer_table.specs.Answers.{answer_row, answer_name, answer_parts}
use Rattle.log_replay.proofs.CallWords.{answer_is, row_word}
use Rattle.log_replay.proofs.same.same_answer.Goals as goal

pub returns-then-same_text : goal.returns-then-same_text
returns-then-same_text c =
    let a = c.args.a in
    let b = c.args.b in
    let word : (answer_row (answer_name a)).word ≡ (answer_row (answer_name b)).word =
    ap (λ (n : AnswerName). (answer_row n).word) (sym c.split_answer-a.ensures.name) ∙ sym (row_word c.answer_form.result (answer_row c.split_answer-a.result.name) c.answer_form.ensures)
    ∙ c.same_text.ensures.0 c.if-same_text.true
    ∙ row_word c.answer_form-2.result (answer_row c.split_answer-b.result.name) c.answer_form-2.ensures ∙ ap (λ (n : AnswerName). (answer_row n).word) c.split_answer-b.ensures.name in (
      λ h. answer_is a b word (sym c.split_answer-a.ensures.value ∙ sym c.deref.ensures.0 ∙ c.same_values.ensures.0 h ∙ c.deref-then-same_text.ensures.0 ∙ c.split_answer-b.ensures.value),
      λ same. c.same_values.ensures.1 (c.deref.ensures.0 ∙ c.split_answer-a.ensures.value ∙ ap answer_parts same ∙ sym c.split_answer-b.ensures.value ∙ sym c.deref-then-same_text.ensures.0),
    )
