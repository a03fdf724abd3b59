use Rattle.std.proofs.Common.{◌∙◌, set, sym, ap}
use Rattle.win_rows.specs.Windows.{set_if}
use Rattle.win_rows.proofs.Ones.{map_one, map_none, set_other}
use Rattle.win_tree.proofs.tree.set_row.Goals as goal

pub returns-in-Some : goal.returns-in-Some
returns-in-Some c =
    let w = c.args.w.0 in
    let ws = c.args.windows.now in
    c.put.ensures ∙ ap (λ y. set ws c.in-Some.i y) c.set_if-x.ensures
    ∙ map_one (set_if w c.args.style c.args.ex c.args.place) w (set_other w c.args.style c.args.ex c.args.place) ws c.in-Some.i c.at.result.now c.in-Some.ensures.rising c.in-Some.ensures.place c.at.ensures

pub returns-in_default : goal.returns-in_default
returns-in_default c = sym (map_none (set_if c.args.w.0 c.args.style c.args.ex c.args.place) c.args.w.0 (set_other c.args.w.0 c.args.style c.args.ex c.args.place) c.args.windows.now c.in_default.ensures.place)
