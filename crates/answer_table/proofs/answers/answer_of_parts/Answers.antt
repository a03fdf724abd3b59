use Rattle.std.proofs.Common.{◌≡◌, Option, Some, ap, ◌∙◌, sym}
use Rattle.std.proofs.lemmas.Bool.{false≢true}
use Rattle.std.proofs.lemmas.Slice.Eq.{slice_eq-Decides}
use Rattle.user_model.specs.declared.entry.Answer.{Answer}
use Rattle.answer_table.specs.Answers.{answer_name, answer_parts}
use Rattle.answer_table.proofs.AnswerLaws.{made_name, made_of}
use Rattle.call_fields.proofs.ValueEquality.{is_same_decides}
use Rattle.answer_table.proofs.answers.answer_of_parts.Goals as goal

pub returns-then-eq-clause-found : goal.returns-then-eq-clause-found
returns-then-eq-clause-found c =
    let same : c.as_slice.result.now ≡ c.args.values.now = (slice_eq-Decides is_same_decides c.as_slice.result.now c.args.values.now c.eq.result c.eq.ensures).0 c.if-eq.true in
    let parts : answer_parts c.made_answer-answer.result ≡ c.as_slice.result.now = sym (c.as_slice.ensures.value ∙ c.answer_parts.ensures.value) in
    record { name_is = ap answer_name c.made_answer-answer.ensures ∙ made_name c.args.name c.args.values.now; parts_are = parts ∙ same }

pub returns-then-eq-clause-back : goal.returns-then-eq-clause-back
returns-then-eq-clause-back c x is =
    let made : c.made_answer-answer.result ≡ x = c.made_answer-answer.ensures ∙ made_of c.args.name c.args.values.now x is in
    ap (λ (y : Answer). let o : Option Answer = Some y in o) made

pub returns-else-eq-clause-back : goal.returns-else-eq-clause-back
returns-else-eq-clause-back c x is =
    let made : c.made_answer-answer.result ≡ x = c.made_answer-answer.ensures ∙ made_of c.args.name c.args.values.now x is in
    let same : c.as_slice.result.now ≡ c.args.values.now = c.as_slice.ensures.value ∙ c.answer_parts.ensures.value ∙ ap answer_parts made ∙ is.parts_are in
    let hit = (slice_eq-Decides is_same_decides c.as_slice.result.now c.args.values.now c.eq.result c.eq.ensures).1 same in
    absurd (false≢true (sym c.if-eq.false ∙ hit))
