-- An answer taken apart.
use Rattle.std.specs.Prelude.{List, Option, Some}
use Rattle.call_fields.specs.declared.value.Value.{Value}
use Rattle.answer_table.specs.declared.answers.AnswerName.{AnswerName}
use Rattle.answer_table.specs.declared.split.SplitAnswer.{SplitAnswer}

-- which form it has, and the values of its fields
pub record Split : Type 0 where
  pub name : AnswerName
  pub values : List Value

-- an answer of this form with these values
abbrev pub split : AnswerName → List Value → Option Split
split name values = Some (record { name = name; values = values })

-- an answer taken apart, read
abbrev pub read_split : SplitAnswer → Split
read_split s = record { name = s.name; values = s.values.items }
