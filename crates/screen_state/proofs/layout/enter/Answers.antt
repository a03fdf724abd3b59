use Rattle.std.proofs.Common.{inl, inr, sym, subst}
use Rattle.std.specs.Prelude.{OnOk}
use Rattle.user_model.specs.declared.entry.Answer.{Answer}
use Rattle.screen_state.specs.Entries.{IsEntered}
use Rattle.screen_state.proofs.Entered.{carried, ended, given_last, made, told, untouched, valued}
use Rattle.screen_state.proofs.layout.enter.Goals as goal

pub returns-in-Window : goal.returns-in-Window
returns-in-Window c =
    let e = c.args.entry in
    subst (λ (a : Answer). OnOk c.make.result (IsEntered e.who.0 a e.call c.args.tree.now c.make.new.tree c.args.order.now c.make.new.order)) (sym c.in-Window.is)
    (made c.make.result e.who.0 e.call c.args.tree.now c.make.new.tree c.args.order.now c.make.new.order c.in-Window.field-0 c.make.ensures.table c.make.ensures.order)

pub returns-in-Value : goal.returns-in-Value
returns-in-Value c =
    let e = c.args.entry in
    subst (λ (a : Answer). OnOk c.place.result (IsEntered e.who.0 a e.call c.args.tree.now c.place.new.tree c.args.order.now c.place.new.order)) (sym c.in-Value.is)
    (valued c.place.result e.who.0 e.call c.args.tree.now c.place.new.tree c.args.order.now c.place.new.order c.in-Value.field-0 c.place.ensures.table c.place.ensures.order)

pub returns-in-Okay : goal.returns-in-Okay
returns-in-Okay c =
    let e = c.args.entry in
    subst (λ (a : Answer). IsEntered e.who.0 a e.call c.args.tree.now c.carry_out.new.tree c.args.order.now c.carry_out.new.order) (sym c.in-Okay.is)
    (carried e.who.0 e.call c.args.tree.now c.carry_out.new.tree c.args.order.now c.carry_out.new.order c.carry_out.ensures.table c.carry_out.ensures.order)

pub returns-in-Tell : goal.returns-in-Tell
returns-in-Tell c =
    let e = c.args.entry in
    elim c.in-Tell.is [
      | inl x ↦ subst (λ (a : Answer). IsEntered e.who.0 a e.call c.args.tree.now c.unmake.new.tree c.args.order.now c.args.order.now) (sym x.1)
          (told e.who.0 e.call c.args.tree.now c.unmake.new.tree c.args.order.now c.args.order.now x.0 c.unmake.ensures)
      | inr x ↦ subst (λ (a : Answer). IsEntered e.who.0 a e.call c.args.tree.now c.unmake.new.tree c.args.order.now c.args.order.now) (sym x.1)
          (given_last e.who.0 e.call c.args.tree.now c.unmake.new.tree c.args.order.now c.args.order.now x.0 c.unmake.ensures)
    ]

pub returns-in-Ended : goal.returns-in-Ended
returns-in-Ended c =
    let e = c.args.entry in
    subst (λ (a : Answer). IsEntered e.who.0 a e.call c.args.tree.now c.drop_thread.new.self c.args.order.now c.leave.new.order) (sym c.in-Ended.is)
    (ended e.who.0 e.call c.args.tree.now c.drop_thread.new.self c.args.order.now c.leave.new.order c.drop_thread.ensures c.leave.ensures)

pub returns-in_default : goal.returns-in_default
returns-in_default c =
    let e = c.args.entry in
    untouched e.who.0 e.answer e.call c.args.tree.now c.args.order.now c.in_default.not-Okay c.in_default.not-Ended c.in_default.not-Value c.in_default.not-Window c.in_default.not-Tell c.in_default.not-Last
