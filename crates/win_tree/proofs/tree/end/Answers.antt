use Rattle.std.proofs.Common.{◌∙◌, set, sym, ap}
use Rattle.win_rows.specs.Windows.{ended_if}
use Rattle.win_rows.proofs.Ones.{map_one, map_none, ended_other}
use Rattle.win_tree.proofs.tree.end.Goals as goal

pub returns-in-Some : goal.returns-in-Some
returns-in-Some c =
    let w = c.args.w.0 in
    let ws = c.args.windows.now in
    c.put.ensures ∙ ap (λ y. set ws c.in-Some.i y) c.ended_if-x.ensures
    ∙ map_one (ended_if w) w (ended_other w) ws c.in-Some.i c.at.result.now c.in-Some.ensures.rising c.in-Some.ensures.place c.at.ensures

pub returns-in_default : goal.returns-in_default
returns-in_default c = sym (map_none (ended_if c.args.w.0) c.args.w.0 (ended_other c.args.w.0) c.args.windows.now c.in_default.ensures.place)
