-- An answer is made of its parts again.
use Rattle.std.proofs.Common.{◌≡◌, ℕ, Bool, true, List, Some, refl, ap, sym, ◌∙◌}
use Rattle.std.specs.Prelude.{find, map}
use Rattle.std.specs.List.{list_all}
use Rattle.std.specs.Str.{bytes_eq}
use Rattle.user_model.specs.declared.entry.Answer.{Answer}
use Rattle.user_model.specs.declared.entry.Answer.TheVariants as answers
use Rattle.call_fields.specs.declared.value.Value.{Value}
use Rattle.call_fields.specs.Values.{field_of}
use Rattle.call_fields.proofs.Finding.{found_passes}
use Rattle.answer_table.specs.declared.answers.AnswerName.{AnswerName}
use Rattle.answer_table.specs.declared.answers.AnswerName.TheVariants as groups
use Rattle.answer_table.specs.declared.drawing.DrawingAnswer.TheVariants as drawing
use Rattle.answer_table.specs.declared.messages.MessageAnswer.TheVariants as messages
use Rattle.answer_table.specs.declared.plain.PlainAnswer.TheVariants as plain
use Rattle.answer_table.specs.declared.sends.SendAnswer.TheVariants as sends
use Rattle.answer_table.specs.Answers.{IsAnswerOf, all_answers, answer_name, answer_parts, answer_row, answer_named, found_split, made_answer}

-- no answer is left out
pub is_found : (a : Answer) → found_split a ≡ Some (record { name = answer_name a; values = answer_parts a })
is_found answers.Okay = refl
is_found a = refl

-- ---- forms and values

pub made_again : (a : Answer) → made_answer (answer_name a) (answer_parts a) ≡ a
made_again answers.Okay = refl
made_again a = refl

pub made_name : (name : AnswerName) (vs : List Value) → answer_name (made_answer name vs) ≡ name
made_name (groups.Plain plain.Okay) vs = refl
made_name (groups.Message messages.Got) vs = refl
made_name (groups.Send sends.Done) vs = refl
made_name (groups.Drawing drawing.Update) vs = refl
made_name name vs = refl

pub parts_fit : (a : Answer) → map field_of (answer_parts a) ≡ (answer_row (answer_name a)).fields
parts_fit answers.Okay = refl
parts_fit a = refl

pub made_of : (name : AnswerName) (vs : List Value) (x : Answer) → IsAnswerOf name vs x → made_answer name vs ≡ x
made_of name vs x is = ap (λ (n : AnswerName). made_answer n vs) (sym is.name_is) ∙ ap (made_answer (answer_name x)) (sym is.parts_are) ∙ made_again x

pub named_again : (n : AnswerName) → answer_named (answer_row n).word ≡ Some n
unfolding answer_named
named_again (groups.Plain plain.Okay) = refl
named_again (groups.Message messages.Got) = refl
named_again (groups.Send sends.Done) = refl
named_again (groups.Drawing drawing.Update) = refl
named_again n = refl

named_by_word : (n : AnswerName) → find (λ m. bytes_eq (answer_row m).word (answer_row n).word) all_answers ≡ Some n
unfolding answer_named
named_by_word n = named_again n

-- a test that the words of all pass
pub each_answer_word : (test : List ℕ → Bool) → list_all (λ n. test (answer_row n).word) all_answers ≡ true → (n : AnswerName) → test (answer_row n).word ≡ true
each_answer_word test passed n = found_passes (λ m. bytes_eq (answer_row m).word (answer_row n).word) (λ m. test (answer_row m).word) all_answers n (named_by_word n) passed
