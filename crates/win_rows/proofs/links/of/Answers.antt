use Rattle.std.proofs.Common.{◌<◌, ◌∙◌, length, arith}
use Rattle.std.proofs.lemmas.Grind.{common_steps}
use Rattle.win_rows.proofs.Grouping.{group_at, groups_length}
use Rattle.win_rows.proofs.links.of.Goals as goal

pub index-requires : goal.index-requires
index-requires c =
    let within : c.in-Some.p < length c.args.u.now.groups.items = omega (arith, c.in-Some.ensures.place.within, groups_length c.args.u.now.link c.args.rows.now c.args.rows.now c.args.u.now.groups.items c.requires) in
    grind (arith, common_steps, within)

pub returns-in-Some : goal.returns-in-Some
returns-in-Some c =
    c.deref.ensures.value
    ∙ group_at c.args.u.now.link c.args.rows.now c.args.rows.now c.args.u.now.groups.items c.in-Some.p c.args.w.0 c.index.result.now c.requires c.in-Some.ensures.place.within c.in-Some.ensures.place.same c.index.ensures
