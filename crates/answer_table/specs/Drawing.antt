-- Answers that speak of the pixels of a window or of the screen, one row each.
use Rattle.std.specs.Prelude.{List, [], ◌∷◌, codes, Option, None}
use Rattle.user_model.specs.declared.entry.Answer.{Answer}
use Rattle.user_model.specs.declared.entry.Answer.TheVariants as answers
use Rattle.call_fields.specs.declared.form.Field.TheVariants as fields
use Rattle.call_fields.specs.declared.value.Value.{Value}
use Rattle.call_fields.specs.declared.value.Value.TheVariants as values
use Rattle.call_fields.specs.Forms.{Row, row}
use Rattle.call_fields.specs.Values.{byte_at, count_at, pixel_at}
use Rattle.answer_table.specs.declared.answers.AnswerName.{AnswerName}
use Rattle.answer_table.specs.declared.answers.AnswerName.TheVariants as groups
use Rattle.answer_table.specs.declared.drawing.DrawingAnswer.{DrawingAnswer}
use Rattle.answer_table.specs.declared.drawing.DrawingAnswer.TheVariants as names
use Rattle.answer_table.specs.Splits.{Split, split}

-- the word of each, and the kinds of its fields
abbrev pub drawing_row : DrawingAnswer → Row
drawing_row names.Update = row (codes "update") (fields.Byte ∷ fields.Pixel ∷ fields.Pixel ∷ fields.Pixel ∷ fields.Pixel ∷ [])
drawing_row names.Painting = row (codes "painting") (fields.Byte ∷ fields.Pixel ∷ fields.Pixel ∷ fields.Pixel ∷ fields.Pixel ∷ [])
drawing_row names.Snap = row (codes "snap") (fields.Count ∷ [])

-- all of them
abbrev pub drawing_answers : List AnswerName
drawing_answers = groups.Drawing names.Update ∷ groups.Drawing names.Painting ∷ groups.Drawing names.Snap ∷ []

-- such an answer taken apart; an answer of another group is not
abbrev pub split_drawing : Answer → Option Split
split_drawing (answers.Update kind l t r b) = split (groups.Drawing names.Update) (values.Byte kind ∷ values.Pixel l ∷ values.Pixel t ∷ values.Pixel r ∷ values.Pixel b ∷ [])
split_drawing (answers.Painting erase l t r b) = split (groups.Drawing names.Painting) (values.Byte erase ∷ values.Pixel l ∷ values.Pixel t ∷ values.Pixel r ∷ values.Pixel b ∷ [])
split_drawing (answers.Snap frame) = split (groups.Drawing names.Snap) (values.Count frame ∷ [])
split_drawing a = None

-- the answer of this form, of the values at its places
abbrev pub made_drawing : DrawingAnswer → List Value → Answer
made_drawing names.Update vs = answers.Update (byte_at vs 0) (pixel_at vs 1) (pixel_at vs 2) (pixel_at vs 3) (pixel_at vs 4)
made_drawing names.Painting vs = answers.Painting (byte_at vs 0) (pixel_at vs 1) (pixel_at vs 2) (pixel_at vs 3) (pixel_at vs 4)
made_drawing names.Snap vs = answers.Snap (count_at vs 0)
