use Rattle.std.proofs.Common.{◌≡◌, ◌∙◌, ◌<◌, rules, refl, subst, arith}
use Rattle.input_state.specs.State.{group_of}
use Rattle.group_state.specs.GroupTables.{IsGroupsAt, Kept}
use Rattle.group_state.proofs.Values.{key_last}
use Rattle.group_state.proofs.groups.GroupState.is_key_down.Goals as goal

pub returns : goal.returns
returns c = λ setup past lawful groups.
    let g : Kept = record { inputs = c.deref.result.now; foreground = c.self.inside.foreground } in
    let same : c.args.self.now ≡ g = search rules in
    let fits = c.ranges.key.fits in
    let low : c.args.key < 256 = omega (arith, fits) in
    c.key_down.ensures.value ∙ key_last setup past g lawful (subst (IsGroupsAt setup past) same groups) c.args.who.0 (group_of g.inputs c.args.who) c.key_down.ensures.members c.args.key c.args.who low refl
