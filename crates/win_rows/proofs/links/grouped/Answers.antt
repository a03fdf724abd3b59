use Rattle.std.proofs.Common.{◌<◌, ◌∙◌, List, length, take, refl, subst, arith, rules, tests}
use Rattle.std.proofs.lemmas.List.{take_all}
use Rattle.win_num.specs.declared.message.Hwnd.{Hwnd}
use Rattle.win_rows.specs.declared.window.Window.{Window}
use Rattle.win_rows.specs.Links.{AreGroups, IsPut}
use Rattle.win_rows.proofs.Grouping.{groups_none, groups_length, groups_more}
use Rattle.win_rows.proofs.links.grouped.Goals as goal

pub loop-i-init : goal.loop-i-init
loop-i-init c = groups_none c.args.link c.args.rows.now c.in_ok-groups.groups.items (c.in_ok-groups.ensures.0 ∙ c.len.ensures) c.in_ok-groups.ensures.1

pub put-requires : goal.put-requires
put-requires c = groups_length c.args.link (take c.loop-i.i c.args.rows.now) c.args.rows.now c.loop-i.groups.items c.loop-i.invariant

pub loop-i-preserved : goal.loop-i-preserved
loop-i-preserved c =
    let ws = c.args.rows.now in
    let x = c.at-x.result.now in
    let lt : c.loop-i.i < length ws = search (rules, tests) in
    groups_more c.args.link ws ws c.loop-i.i x c.loop-i.groups.items c.put.new.groups.items lt c.at-x.ensures c.loop-i.invariant
    (subst (λ (a : Hwnd). IsPut ws a.0 x c.loop-i.groups.items c.put.new.groups.items) c.above_by.ensures c.in_ok-put.ensures)

pub returns : goal.returns
returns c = (refl, subst (λ (us : List Window). AreGroups c.args.link us c.args.rows.now c.loop-i.groups.items) (take_all c.loop-i.i c.args.rows.now (omega arith)) c.loop-i.invariant)
