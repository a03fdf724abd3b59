use Rattle.std.proofs.Common.{rules, ℕ, Some, ap, ◌∙◌, sym}
use Rattle.std.specs.Prelude.{option_map}
use Rattle.win_num.specs.declared.message.Msg.{Msg}
use Rattle.win_num.specs.declared.message.Thread.{Thread}
use Rattle.input_queue.specs.Elements as queue
use Rattle.core_state.specs.Inputs.{passes_in, taker_in, told_of}
use Rattle.core_state.proofs.Homes.{none_is, take_told}
use Rattle.core_state.proofs.state.CoreState.next_input.Goals as goal

pub returns-in-Some : goal.returns-in-Some
returns-in-Some c =
    let v = c.args.self.now in
    let t : Thread = record { 0 = c.args.thread } in
    let members = c.members-group.ensures (none_is c.args.thread c.requires.some) in
    let first = c.first_for.ensures.value (taker_in v.setup v.past) (passes_in v.setup v.past c.args.filter) (λ x b k. search rules) (λ x b k. search rules) in
    ap (λ (m : Msg). let told : ℕ × Msg = (c.in-Some.element.number, m) in Some told) c.handed_out.ensures
    ∙ ap (option_map (told_of v.setup v.past)) (sym c.in-Some.is ∙ first ∙ ap (λ l. queue.first_takeable t (taker_in v.setup v.past) (passes_in v.setup v.past c.args.filter) (queue.of_group c.members-group.result l)) c.untaken.ensures.all)
    ∙ take_told v.setup v.past t c.members-group.result c.args.filter members c.untaken.ensures.homes

pub returns-in-None : goal.returns-in-None
returns-in-None c =
    let v = c.args.self.now in
    let t : Thread = record { 0 = c.args.thread } in
    let members = c.members-group.ensures (none_is c.args.thread c.requires.some) in
    let first = c.first_for.ensures.value (taker_in v.setup v.past) (passes_in v.setup v.past c.args.filter) (λ x b k. search rules) (λ x b k. search rules) in
    ap (option_map (told_of v.setup v.past)) (sym c.in-None.is ∙ first ∙ ap (λ l. queue.first_takeable t (taker_in v.setup v.past) (passes_in v.setup v.past c.args.filter) (queue.of_group c.members-group.result l)) c.untaken.ensures.all)
    ∙ take_told v.setup v.past t c.members-group.result c.args.filter members c.untaken.ensures.homes
