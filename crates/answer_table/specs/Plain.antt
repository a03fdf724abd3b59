-- Answers that speak of no message and no send, one row each.
use Rattle.std.specs.Prelude.{List, [], ◌∷◌, codes, Option, None}
use Rattle.user_model.specs.declared.entry.Answer.{Answer}
use Rattle.user_model.specs.declared.entry.Answer.TheVariants as answers
use Rattle.call_fields.specs.declared.form.Field.TheVariants as fields
use Rattle.call_fields.specs.declared.value.Value.{Value}
use Rattle.call_fields.specs.declared.value.Value.TheVariants as values
use Rattle.call_fields.specs.Forms.{Row, row}
use Rattle.call_fields.specs.Values.{code_at, number_at, thread_at, window_at}
use Rattle.answer_table.specs.declared.answers.AnswerName.{AnswerName}
use Rattle.answer_table.specs.declared.answers.AnswerName.TheVariants as groups
use Rattle.answer_table.specs.declared.plain.PlainAnswer.{PlainAnswer}
use Rattle.answer_table.specs.declared.plain.PlainAnswer.TheVariants as names
use Rattle.answer_table.specs.Splits.{Split, split}

-- the word of each, and the kinds of its fields
abbrev pub plain_row : PlainAnswer → Row
plain_row names.Okay = row (codes "ok") []
plain_row names.Ended = row (codes "ended") []
plain_row names.Nothing = row (codes "none") []
plain_row names.Wait = row (codes "wait") []
plain_row names.Stuck = row (codes "stuck") []
plain_row names.Gone = row (codes "gone") []
plain_row names.Running = row (codes "running") []
plain_row names.Value = row (codes "value") (fields.Number ∷ [])
plain_row names.Window = row (codes "window") (fields.Window ∷ [])
plain_row names.Was = row (codes "was") (fields.Window ∷ [])
plain_row names.Tell = row (codes "tell") (fields.Window ∷ [])
plain_row names.Last = row (codes "last") (fields.Window ∷ [])
plain_row names.Finished = row (codes "result") (fields.Number ∷ [])
plain_row names.Advanced = row (codes "advanced") (fields.Number ∷ [])
plain_row names.Busy = row (codes "busy") (fields.Thread ∷ [])
plain_row names.Refused = row (codes "refused") (fields.Code ∷ [])

-- all of them
abbrev pub plain_answers : List AnswerName
plain_answers = groups.Plain names.Okay ∷ groups.Plain names.Ended ∷ groups.Plain names.Nothing ∷ groups.Plain names.Wait ∷ groups.Plain names.Stuck ∷ groups.Plain names.Gone ∷ groups.Plain names.Running ∷ groups.Plain names.Value ∷ groups.Plain names.Window ∷ groups.Plain names.Was ∷ groups.Plain names.Tell ∷ groups.Plain names.Last ∷ groups.Plain names.Finished ∷ groups.Plain names.Advanced ∷ groups.Plain names.Busy ∷ groups.Plain names.Refused ∷ []

-- such an answer taken apart; an answer of another group is not
abbrev pub split_plain : Answer → Option Split
split_plain answers.Okay = split (groups.Plain names.Okay) []
split_plain answers.Ended = split (groups.Plain names.Ended) []
split_plain answers.Nothing = split (groups.Plain names.Nothing) []
split_plain answers.Wait = split (groups.Plain names.Wait) []
split_plain answers.Stuck = split (groups.Plain names.Stuck) []
split_plain answers.Gone = split (groups.Plain names.Gone) []
split_plain answers.Running = split (groups.Plain names.Running) []
split_plain (answers.Value value) = split (groups.Plain names.Value) (values.Number value ∷ [])
split_plain (answers.Window window) = split (groups.Plain names.Window) (values.Window window ∷ [])
split_plain (answers.Was window) = split (groups.Plain names.Was) (values.Window window ∷ [])
split_plain (answers.Tell window) = split (groups.Plain names.Tell) (values.Window window ∷ [])
split_plain (answers.Last window) = split (groups.Plain names.Last) (values.Window window ∷ [])
split_plain (answers.Finished result) = split (groups.Plain names.Finished) (values.Number result ∷ [])
split_plain (answers.Advanced time) = split (groups.Plain names.Advanced) (values.Number time ∷ [])
split_plain (answers.Busy thread) = split (groups.Plain names.Busy) (values.Thread thread ∷ [])
split_plain (answers.Refused code) = split (groups.Plain names.Refused) (values.Code code ∷ [])
split_plain a = None

-- the answer of this form, of the values at its places
abbrev pub made_plain : PlainAnswer → List Value → Answer
made_plain names.Okay vs = answers.Okay
made_plain names.Ended vs = answers.Ended
made_plain names.Nothing vs = answers.Nothing
made_plain names.Wait vs = answers.Wait
made_plain names.Stuck vs = answers.Stuck
made_plain names.Gone vs = answers.Gone
made_plain names.Running vs = answers.Running
made_plain names.Value vs = answers.Value (number_at vs 0)
made_plain names.Window vs = answers.Window (window_at vs 0)
made_plain names.Was vs = answers.Was (window_at vs 0)
made_plain names.Tell vs = answers.Tell (window_at vs 0)
made_plain names.Last vs = answers.Last (window_at vs 0)
made_plain names.Finished vs = answers.Finished (number_at vs 0)
made_plain names.Advanced vs = answers.Advanced (number_at vs 0)
made_plain names.Busy vs = answers.Busy (thread_at vs 0)
made_plain names.Refused vs = answers.Refused (code_at vs 0)
