use Rattle.std.proofs.Common.{◌≡◌, false, eqb, ap, sym, ◌∙◌, arith}
use Rattle.std.proofs.lemmas.Bool.{eq-eqb, ne_eqb}
use Rattle.win_num.specs.declared.code.Code.TheVariants.{Full, NoTarget}
use Rattle.user_model.specs.declared.entry.Answer.TheVariants as answers
use Rattle.user_model.specs.Inputs.{home_of}
use Rattle.user_model.specs.Refusals.{refuse}
use Rattle.user_model.specs.ReplyInput.{has_no_place, next_input_number}
use Rattle.core_window.proofs.inputs.inject_answer.Goals as goal

pub lacks_place-requires-clause-some : goal.lacks_place-requires-clause-some
lacks_place-requires-clause-some c = omega (arith, c.if-home-eq0.false)

pub returns-then-home-eq0 : goal.returns-then-home-eq0
returns-then-home-eq0 c = λ i home message.
    let v = c.args.state.now in
    sym (ap (λ b. refuse b NoTarget (refuse (has_no_place v.setup v.past i) Full (answers.Input (next_input_number v.past)))) (eq-eqb (home_of v.setup v.past i) 0 (sym home ∙ c.if-home-eq0.true)))

pub returns-then-lacks_place : goal.returns-then-lacks_place
returns-then-lacks_place c = λ i home message.
    let v = c.args.state.now in
    let some : eqb (home_of v.setup v.past i) 0 ≡ false = ne_eqb (home_of v.setup v.past i) 0 (λ none. c.if-home-eq0.false (home ∙ none)) in
    sym (ap (λ b. refuse b NoTarget (refuse (has_no_place v.setup v.past i) Full (answers.Input (next_input_number v.past)))) some
    ∙ ap (λ b. refuse b Full (answers.Input (next_input_number v.past))) (sym (c.lacks_place.ensures i home message) ∙ c.if-lacks_place.true))

pub returns : goal.returns
returns c = λ i home message.
    let v = c.args.state.now in
    let some : eqb (home_of v.setup v.past i) 0 ≡ false = ne_eqb (home_of v.setup v.past i) 0 (λ none. c.if-home-eq0.false (home ∙ none)) in
    ap (λ k. answers.Input k) c.next_input_number.ensures
    ∙ sym (ap (λ b. refuse b NoTarget (refuse (has_no_place v.setup v.past i) Full (answers.Input (next_input_number v.past)))) some
    ∙ ap (λ b. refuse b Full (answers.Input (next_input_number v.past))) (sym (c.lacks_place.ensures i home message) ∙ c.if-lacks_place.false))
