use Rattle.std.proofs.Common.{◌≡◌, rules, subst}
use Rattle.group_state.specs.GroupTables.{IsGroupsAt, Kept}
use Rattle.group_state.proofs.Reaching.{group_is}
use Rattle.group_state.proofs.groups.GroupState.group.Goals as goal

pub returns : goal.returns
returns c = λ setup past lawful groups u low.
    let g : Kept = record { inputs = c.deref.result.now; foreground = c.self.inside.foreground } in
    let same : c.args.self.now ≡ g = search rules in
    let kept : IsGroupsAt setup past g = subst (IsGroupsAt setup past) same groups in
    group_is setup past g.inputs.links c.args.who.0 u c.group.result lawful kept.few kept.links (c.group.ensures.members u low)
