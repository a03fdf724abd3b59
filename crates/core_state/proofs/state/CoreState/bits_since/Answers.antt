use Rattle.std.proofs.Common.{ap, ◌∙◌}
use Rattle.user_model.specs.Since.{has_due_after, has_input_above}
use Rattle.user_model.specs.Status.{is_move, is_of_button, is_of_key}
use Rattle.look_state.specs.declared.moment.Moment.{Moment}
use Rattle.core_state.proofs.StatusReads.{bits_told}
use Rattle.core_state.proofs.state.CoreState.bits_since.Goals as goal

pub returns-clause-bits : goal.returns-clause-bits
returns-clause-bits c = λ h b is_posted is_sent.
    let v = c.args.self.now in
    let t = c.args.thread in
    let at = c.at-at.ensures in
    c.bits.ensures.value
    ∙ bits_told v.setup v.past h t c.args.look.now c.has_input-key.result c.has_input-moved.result c.has_input-button.result c.args.posted c.has_due_after-timer.result c.in_ok-paint.paint c.args.sent b
    (c.has_input-key.ensures ∙ ap (λ (m : Moment). has_input_above is_of_key v.setup v.past t m.inputs) at)
    (c.has_input-moved.ensures ∙ ap (λ (m : Moment). has_input_above is_move v.setup v.past t m.inputs) at)
    (c.has_input-button.ensures ∙ ap (λ (m : Moment). has_input_above is_of_button v.setup v.past t m.inputs) at)
    is_posted
    (c.has_due_after-timer.ensures ∙ ap (λ (m : Moment). has_due_after v.past t m.time) at)
    (c.in_ok-paint.ensures h b)
    is_sent
