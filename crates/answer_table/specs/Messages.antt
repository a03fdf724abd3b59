-- Answers that speak of a message, one row each.
use Rattle.std.specs.Prelude.{ℕ, ℤ, List, [], ◌∷◌, codes, Option, None}
use Rattle.win_num.specs.declared.message.Hwnd.{Hwnd}
use Rattle.win_num.specs.declared.message.Msg.{Msg}
use Rattle.user_model.specs.declared.entry.Answer.{Answer}
use Rattle.user_model.specs.declared.entry.Answer.TheVariants as answers
use Rattle.call_fields.specs.declared.form.Field.TheVariants as fields
use Rattle.call_fields.specs.declared.value.Value.{Value}
use Rattle.call_fields.specs.declared.value.Value.TheVariants as values
use Rattle.call_fields.specs.Forms.{Row, row}
use Rattle.call_fields.specs.Values.{count_at, number_at, pixel_at, procedure_at, short_message_at, source_at, window_at}
use Rattle.answer_table.specs.declared.answers.AnswerName.{AnswerName}
use Rattle.answer_table.specs.declared.answers.AnswerName.TheVariants as groups
use Rattle.answer_table.specs.declared.messages.MessageAnswer.{MessageAnswer}
use Rattle.answer_table.specs.declared.messages.MessageAnswer.TheVariants as names
use Rattle.answer_table.specs.Splits.{Split, split}

-- the word of each, and the kinds of its fields
abbrev pub message_row : MessageAnswer → Row
message_row names.Posted = row (codes "posted") (fields.Count ∷ [])
message_row names.Input = row (codes "input") (fields.Count ∷ [])
message_row names.Called = row (codes "called") (fields.Procedure ∷ [])
message_row names.Got = row (codes "got") (fields.Source ∷ fields.Count ∷ fields.Window ∷ fields.ShortMessage ∷ fields.Number ∷ fields.Number ∷ fields.Number ∷ fields.Pixel ∷ fields.Pixel ∷ [])

-- all of them
abbrev pub message_answers : List AnswerName
message_answers = groups.Message names.Posted ∷ groups.Message names.Input ∷ groups.Message names.Called ∷ groups.Message names.Got ∷ []

-- such an answer taken apart; an answer of another group is not
abbrev pub split_message : Answer → Option Split
split_message (answers.Posted number) = split (groups.Message names.Posted) (values.Count number ∷ [])
split_message (answers.Input number) = split (groups.Message names.Input) (values.Count number ∷ [])
split_message (answers.Called procedure) = split (groups.Message names.Called) (values.Procedure procedure ∷ [])
split_message (answers.Got origin number msg) = split (groups.Message names.Got) (values.Source origin ∷ values.Count number ∷ values.Window msg.hwnd ∷ values.ShortMessage msg.number ∷ values.Number msg.wparam ∷ values.Number msg.lparam ∷ values.Number msg.time ∷ values.Pixel msg.point.x ∷ values.Pixel msg.point.y ∷ [])
split_message a = None

-- a message of its numbers
abbrev pub message_of : Hwnd → ℕ → ℕ → ℕ → ℕ → ℤ → ℤ → Msg
message_of hwnd number wparam lparam time x y = record { hwnd = hwnd; number = number; wparam = wparam; lparam = lparam; time = time; point = record { x = x; y = y } }

-- the answer of this form, of the values at its places
abbrev pub made_message : MessageAnswer → List Value → Answer
made_message names.Posted vs = answers.Posted (count_at vs 0)
made_message names.Input vs = answers.Input (count_at vs 0)
made_message names.Called vs = answers.Called (procedure_at vs 0)
made_message names.Got vs = answers.Got (source_at vs 0) (count_at vs 1) (message_of (window_at vs 2) (short_message_at vs 3) (number_at vs 4) (number_at vs 5) (number_at vs 6) (pixel_at vs 7) (pixel_at vs 8))
