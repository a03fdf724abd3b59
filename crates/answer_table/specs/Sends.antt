-- Answers that speak of a send, one row each.
use Rattle.std.specs.Prelude.{List, [], ◌∷◌, codes, Option, None}
use Rattle.user_model.specs.declared.entry.Answer.{Answer}
use Rattle.user_model.specs.declared.entry.Answer.TheVariants as answers
use Rattle.call_fields.specs.declared.form.Field.TheVariants as fields
use Rattle.call_fields.specs.declared.value.Value.{Value}
use Rattle.call_fields.specs.declared.value.Value.TheVariants as values
use Rattle.call_fields.specs.Forms.{Row, row}
use Rattle.call_fields.specs.Values.{cause_at, number_at, procedure_at, send_at, short_message_at, window_at}
use Rattle.answer_table.specs.declared.answers.AnswerName.{AnswerName}
use Rattle.answer_table.specs.declared.answers.AnswerName.TheVariants as groups
use Rattle.answer_table.specs.declared.sends.SendAnswer.{SendAnswer}
use Rattle.answer_table.specs.declared.sends.SendAnswer.TheVariants as names
use Rattle.answer_table.specs.Splits.{Split, split}

-- the word of each, and the kinds of its fields
abbrev pub send_row : SendAnswer → Row
send_row names.Inside = row (codes "inside") (fields.Send ∷ fields.Procedure ∷ [])
send_row names.Begun = row (codes "begun") (fields.Send ∷ [])
send_row names.Left = row (codes "left") (fields.Send ∷ [])
send_row names.Enter = row (codes "enter") (fields.Send ∷ fields.Procedure ∷ fields.Window ∷ fields.ShortMessage ∷ fields.Number ∷ fields.Number ∷ [])
send_row names.Callback = row (codes "callback") (fields.Send ∷ fields.Procedure ∷ fields.Window ∷ fields.ShortMessage ∷ fields.Number ∷ fields.Number ∷ [])
send_row names.Done = row (codes "done") (fields.Number ∷ fields.Cause ∷ [])

-- all of them
abbrev pub send_answers : List AnswerName
send_answers = groups.Send names.Inside ∷ groups.Send names.Begun ∷ groups.Send names.Left ∷ groups.Send names.Enter ∷ groups.Send names.Callback ∷ groups.Send names.Done ∷ []

-- such an answer taken apart; an answer of another group is not
abbrev pub split_send : Answer → Option Split
split_send (answers.Inside send procedure) = split (groups.Send names.Inside) (values.Send send ∷ values.Procedure procedure ∷ [])
split_send (answers.Begun send) = split (groups.Send names.Begun) (values.Send send ∷ [])
split_send (answers.Left send) = split (groups.Send names.Left) (values.Send send ∷ [])
split_send (answers.Enter send proc_no hwnd number wparam lparam) = split (groups.Send names.Enter) (values.Send send ∷ values.Procedure proc_no ∷ values.Window hwnd ∷ values.ShortMessage number ∷ values.Number wparam ∷ values.Number lparam ∷ [])
split_send (answers.Callback send proc_no hwnd number extra result) = split (groups.Send names.Callback) (values.Send send ∷ values.Procedure proc_no ∷ values.Window hwnd ∷ values.ShortMessage number ∷ values.Number extra ∷ values.Number result ∷ [])
split_send (answers.Done result cause) = split (groups.Send names.Done) (values.Number result ∷ values.Cause cause ∷ [])
split_send a = None

-- the answer of this form, of the values at its places
abbrev pub made_send : SendAnswer → List Value → Answer
made_send names.Inside vs = answers.Inside (send_at vs 0) (procedure_at vs 1)
made_send names.Begun vs = answers.Begun (send_at vs 0)
made_send names.Left vs = answers.Left (send_at vs 0)
made_send names.Enter vs = answers.Enter (send_at vs 0) (procedure_at vs 1) (window_at vs 2) (short_message_at vs 3) (number_at vs 4) (number_at vs 5)
made_send names.Callback vs = answers.Callback (send_at vs 0) (procedure_at vs 1) (window_at vs 2) (short_message_at vs 3) (number_at vs 4) (number_at vs 5)
made_send names.Done vs = answers.Done (number_at vs 0) (cause_at vs 1)
