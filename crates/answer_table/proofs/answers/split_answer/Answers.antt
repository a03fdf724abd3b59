use Rattle.std.proofs.Common.{◌≡◌, Option, Some, ap, sym, ◌∙◌}
use Rattle.std.specs.Prelude.{map, option_map}
use Rattle.call_fields.specs.Values.{field_of}
use Rattle.answer_table.specs.declared.answers.AnswerName.{AnswerName}
use Rattle.answer_table.specs.Answers.{answer_name, answer_parts, answer_row, found_split, split_or_none}
use Rattle.answer_table.specs.Splits.{Split, read_split}
use Rattle.answer_table.proofs.AnswerLaws.{parts_fit}
use Rattle.answer_table.proofs.answers.split_answer.Goals as goal

pub returns-clause-fit : goal.returns-clause-fit
returns-clause-fit c =
    let found : option_map read_split (Some c.in-Some.split) ≡ found_split c.args.answer = sym (ap (option_map read_split) c.in-Some.is) ∙ c.found_split.ensures in
    let parts : c.in-Some.split.values.items ≡ answer_parts c.args.answer = ap (λ (o : Option Split). (split_or_none o).values) found in
    let name : c.in-Some.split.name ≡ answer_name c.args.answer = ap (λ (o : Option Split). (split_or_none o).name) found in
    ap (map field_of) parts ∙ parts_fit c.args.answer ∙ ap (λ (n : AnswerName). (answer_row n).fields) (sym name)
