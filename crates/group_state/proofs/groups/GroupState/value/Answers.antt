use Rattle.std.proofs.Common.{◌≡◌, rules, refl, subst, sym, ap, ◌∙◌}
use Rattle.win_num.specs.declared.message.Hwnd.{Hwnd}
use Rattle.input_state.specs.State.{State, window_of}
use Rattle.group_state.specs.GroupTables.{IsGroupsAt, Kept}
use Rattle.group_state.proofs.Values.{set_last, value_held, value_none}
use Rattle.group_state.proofs.groups.GroupState.value.Goals as goal

pub returns-then-holds : goal.returns-then-holds
returns-then-holds c = λ setup past lawful at groups.
    let g : Kept = record { inputs = c.deref-2.result.now; foreground = c.self.inside.foreground } in
    let same : c.args.self.now ≡ g = search rules in
    let once : c.deref.result.now ≡ c.deref-2.result.now = search rules in
    let kept = subst (IsGroupsAt setup past) same groups in
    let last = ap (λ (h : Hwnd). h.0) (c.value-w.ensures ∙ ap (λ (s : State). window_of s c.args.who c.args.slot) once ∙ set_last setup past c.args.tree.now g lawful at kept c.args.who.0 c.group.result c.group.ensures.members c.args.slot c.args.who refl c.group.ensures.value) in
    value_held setup past c.args.tree.now g lawful at kept c.args.who.0 c.group.result c.group.ensures.members c.args.slot c.value-w.result.0 last (sym c.holds.ensures ∙ c.if-holds.true)

pub returns-else-holds : goal.returns-else-holds
returns-else-holds c = λ setup past lawful at groups.
    let g : Kept = record { inputs = c.deref-2.result.now; foreground = c.self.inside.foreground } in
    let same : c.args.self.now ≡ g = search rules in
    let once : c.deref.result.now ≡ c.deref-2.result.now = search rules in
    let kept = subst (IsGroupsAt setup past) same groups in
    let last = ap (λ (h : Hwnd). h.0) (c.value-w.ensures ∙ ap (λ (s : State). window_of s c.args.who c.args.slot) once ∙ set_last setup past c.args.tree.now g lawful at kept c.args.who.0 c.group.result c.group.ensures.members c.args.slot c.args.who refl c.group.ensures.value) in
    value_none setup past c.args.tree.now g lawful at kept c.args.who.0 c.group.result c.group.ensures.members c.args.slot c.value-w.result.0 last (sym c.holds.ensures ∙ c.if-holds.false)
