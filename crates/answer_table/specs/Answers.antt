-- The forms of answers: each group has its rows in a file of its own.
use Rattle.std.specs.Prelude.{◌≡◌, ℕ, List, [], ◌∷◌, ◌++◌, find, Option, Some, None}
use Rattle.std.specs.Option.{option_or}
use Rattle.std.specs.Str.{bytes_eq}
use Rattle.user_model.specs.declared.entry.Answer.{Answer}
use Rattle.call_fields.specs.declared.value.Value.{Value}
use Rattle.call_fields.specs.Forms.{Row}
use Rattle.answer_table.specs.declared.answers.AnswerName.{AnswerName}
use Rattle.answer_table.specs.declared.answers.AnswerName.TheVariants as groups
use Rattle.answer_table.specs.declared.plain.PlainAnswer.TheVariants as plain
use Rattle.answer_table.specs.Splits.{Split}
use Rattle.answer_table.specs.Plain.{plain_row, plain_answers, split_plain, made_plain}
use Rattle.answer_table.specs.Messages.{message_row, message_answers, split_message, made_message}
use Rattle.answer_table.specs.Sends.{send_row, send_answers, split_send, made_send}
use Rattle.answer_table.specs.Drawing.{drawing_row, drawing_answers, split_drawing, made_drawing}

-- the word of each form, and the kinds of its fields
abbrev pub answer_row : AnswerName → Row
answer_row (groups.Plain n) = plain_row n
answer_row (groups.Message n) = message_row n
answer_row (groups.Send n) = send_row n
answer_row (groups.Drawing n) = drawing_row n

-- all of them
abbrev pub all_answers : List AnswerName
all_answers = plain_answers ++ (message_answers ++ (send_answers ++ drawing_answers))

-- the one with this word
unfoldable pub answer_named : List ℕ → Option AnswerName
answer_named word = find (λ n. bytes_eq (answer_row n).word word) all_answers

-- the first that is there
abbrev pub first_found : Option Split → List (Option Split) → Option Split
first_found o [] = o
first_found o (p ∷ ps) = first_found (option_or o p) ps

-- an answer taken apart by the group that has it; each answer is of one
abbrev pub found_split : Answer → Option Split
found_split a = first_found (split_plain a) (split_message a ∷ split_send a ∷ split_drawing a ∷ [])

abbrev pub split_or_none : Option Split → Split
split_or_none (Some s) = s
split_or_none None = record { name = groups.Plain plain.Nothing; values = [] }

-- which form an answer has
abbrev pub answer_name : Answer → AnswerName
answer_name a = (split_or_none (found_split a)).name

-- the values of its fields
abbrev pub answer_parts : Answer → List Value
answer_parts a = (split_or_none (found_split a)).values

-- the answer of this form, of the values at its places
abbrev pub made_answer : AnswerName → List Value → Answer
made_answer (groups.Plain n) vs = made_plain n vs
made_answer (groups.Message n) vs = made_message n vs
made_answer (groups.Send n) vs = made_send n vs
made_answer (groups.Drawing n) vs = made_drawing n vs

-- this answer has this form and these values
pub record IsAnswerOf (name : AnswerName) (vs : List Value) (a : Answer) : Type 0 where
  pub name_is : answer_name a ≡ name
  pub parts_are : answer_parts a ≡ vs
