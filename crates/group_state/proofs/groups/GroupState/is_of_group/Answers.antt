use Rattle.std.proofs.Common.{◌≡◌, rules, subst, ◌∙◌}
use Rattle.group_state.specs.GroupTables.{IsGroupsAt, Kept}
use Rattle.group_state.proofs.Values.{holds_is}
use Rattle.group_state.proofs.groups.GroupState.is_of_group.Goals as goal

pub returns : goal.returns
returns c = λ setup past lawful at groups.
    let g : Kept = record { inputs = c.deref.result.now; foreground = c.self.inside.foreground } in
    let same : c.args.self.now ≡ g = search rules in
    c.holds.ensures ∙ holds_is setup past c.args.tree.now g lawful at (subst (IsGroupsAt setup past) same groups) c.args.who.0 c.group.result c.group.ensures.members c.args.w.0
