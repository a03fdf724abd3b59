use Rattle.std.proofs.Common.{◌≡◌, false, cond, eqb, arith, ap, sym, ◌∙◌}
use Rattle.std.proofs.lemmas.Bool.{eq-eqb}
use Rattle.std.proofs.lemmas.Bool.Decides.{nat_tests}
use Rattle.win_num.specs.declared.code.Code.TheVariants.{Full}
use Rattle.user_model.specs.Past.{is_full}
use Rattle.user_model.specs.Refusals.{refuse}
use Rattle.user_model.specs.Replies.{thread_reply}
use Rattle.user_model.specs.Idle.{clock_row, reply}
use Rattle.user_core.proofs.answer.answer.Goals as goal

pub returns-in-Numbered : goal.returns-in-Numbered
unfolding reply
returns-in-Numbered c =
    let setup = c.args.state.now.setup in
    let past = c.args.state.now.past in
    let is = rw c.in-Numbered.is at c.actor_of.ensures in
    let other : eqb c.args.who.0 0 ≡ false = grind (arith, nat_tests, is.0, is.1) in
    c.own_answer.ensures
    ∙ ap (λ b. refuse (is_full past) Full (cond b (clock_row setup past c.args.call.now) (thread_reply setup past c.args.who.0 c.args.call.now))) (sym other)

pub returns-in-Clock : goal.returns-in-Clock
unfolding reply
returns-in-Clock c =
    let setup = c.args.state.now.setup in
    let past = c.args.state.now.past in
    let zero : c.args.who.0 ≡ 0 = rw c.in-Clock.is at c.actor_of.ensures in
    c.answer_to_clock.ensures
    ∙ ap (λ b. refuse (is_full past) Full (cond b (clock_row setup past c.args.call.now) (thread_reply setup past c.args.who.0 c.args.call.now))) (sym (eq-eqb c.args.who.0 0 zero))
