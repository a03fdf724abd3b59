-- Calls and answers are known by their words and the values of their fields.
use Rattle.std.proofs.Common.{◌≡◌, ℕ, Option, Some, sym, ap, ◌∙◌}
use Rattle.user_model.specs.declared.call.Call.{Call}
use Rattle.call_fields.specs.declared.form.Form.{Form}
use Rattle.call_fields.specs.Forms.{Row, read_form}
use Rattle.user_model.specs.declared.entry.Answer.{Answer}
use Rattle.call_table.specs.declared.calls.CallName.{CallName}
use Rattle.call_table.specs.Calls.{call_row, call_name, call_named, call_parts, made_call}
use Rattle.call_table.proofs.CallLaws as call_laws
use Rattle.answer_table.specs.declared.answers.AnswerName.{AnswerName}
use Rattle.answer_table.specs.Answers.{answer_row, answer_name, answer_named, answer_parts, made_answer}
use Rattle.answer_table.proofs.AnswerLaws as answer_laws

call_name_is : (n m : CallName) → (let o : Option CallName = Some n in let p : Option CallName = Some m in o ≡ p) → n ≡ m
call_name_is n m e = cc

answer_name_is : (n m : AnswerName) → (let o : Option AnswerName = Some n in let p : Option AnswerName = Some m in o ≡ p) → n ≡ m
answer_name_is n m e = cc

pub call_is : (c d : Call) → (call_row (call_name c)).word ≡ (call_row (call_name d)).word → call_parts c ≡ call_parts d → c ≡ d
call_is c d word parts =
    let named : call_name c ≡ call_name d = call_name_is (call_name c) (call_name d) (sym (call_laws.named_again (call_name c)) ∙ ap call_named word ∙ call_laws.named_again (call_name d)) in
    sym (call_laws.made_again c) ∙ ap (λ (n : CallName). made_call n (call_parts c)) named ∙ ap (made_call (call_name d)) parts ∙ call_laws.made_again d

pub answer_is : (c d : Answer) → (answer_row (answer_name c)).word ≡ (answer_row (answer_name d)).word → answer_parts c ≡ answer_parts d → c ≡ d
answer_is c d word parts =
    let named : answer_name c ≡ answer_name d = answer_name_is (answer_name c) (answer_name d) (sym (answer_laws.named_again (answer_name c)) ∙ ap answer_named word ∙ answer_laws.named_again (answer_name d)) in
    sym (answer_laws.made_again c) ∙ ap (λ (n : AnswerName). made_answer n (answer_parts c)) named ∙ ap (made_answer (answer_name d)) parts ∙ answer_laws.made_again d

-- the word of a form is that of its row
pub row_word : (f : Form) (r : Row) → read_form f ≡ r → f.word.now ≡ r.word
row_word f r e = ap (λ (x : Row). x.word) e
