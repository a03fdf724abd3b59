use Rattle.std.proofs.Common.{◌≡◌, sym, ap, ◌∙◌}
use Rattle.call_table.specs.declared.calls.CallName.{CallName}
use Rattle.call_table.specs.Calls.{call_row, call_name, call_parts}
use Rattle.log_replay.proofs.CallWords.{call_is, row_word}
use Rattle.log_replay.proofs.same.same_call.Goals as goal

pub returns-then-same_text : goal.returns-then-same_text
returns-then-same_text c =
    let a = c.args.a in
    let b = c.args.b in
    let word : (call_row (call_name a)).word ≡ (call_row (call_name b)).word =
    ap (λ (n : CallName). (call_row n).word) (sym c.split_call-a.ensures.name) ∙ sym (row_word c.call_form.result (call_row c.split_call-a.result.name) c.call_form.ensures)
    ∙ c.same_text.ensures.0 c.if-same_text.true
    ∙ row_word c.call_form-2.result (call_row c.split_call-b.result.name) c.call_form-2.ensures ∙ ap (λ (n : CallName). (call_row n).word) c.split_call-b.ensures.name in (
      λ h. call_is a b word (sym c.split_call-a.ensures.value ∙ sym c.deref.ensures.0 ∙ c.same_values.ensures.0 h ∙ c.deref-then-same_text.ensures.0 ∙ c.split_call-b.ensures.value),
      λ same. c.same_values.ensures.1 (c.deref.ensures.0 ∙ c.split_call-a.ensures.value ∙ ap call_parts same ∙ sym c.split_call-b.ensures.value ∙ sym c.deref-then-same_text.ensures.0),
    )
