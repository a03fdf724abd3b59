use Rattle.std.proofs.Common.{◌∙◌, map, ap, sym, subst}
use Rattle.win_order.specs.Kept.{AllCameNew}
use Rattle.win_order.specs.Standings.{flagged}
use Rattle.win_order.proofs.StandingLaws.{new_flagged}
use Rattle.win_order.proofs.standings.Standings.flagged.Goals as goal

pub topmost_among-requires : goal.topmost_among-requires
topmost_among-requires c =
    let same = c.windows.view_is ∙ c.in_ok-windows.ensures in
    let new = c.set_flag.ensures.flag ∙ ap (map (flagged c.args.window.0 c.args.flag)) same in
    subst AllCameNew (sym new) (new_flagged c.args.window.0 c.args.flag c.args.self.now (subst AllCameNew same c.windows.invariant.1))

pub invariant_of-result : goal.invariant_of-result
invariant_of-result c =
    let same = c.windows.view_is ∙ c.in_ok-windows.ensures in
    let new = c.set_flag.ensures.flag ∙ ap (map (flagged c.args.window.0 c.args.flag)) same in
    (c.set_flag.ensures.unique, subst AllCameNew (sym new) (new_flagged c.args.window.0 c.args.flag c.args.self.now (subst AllCameNew same c.windows.invariant.1)), c.in_ok-topmost.ensures)

pub returns : goal.returns
returns c = c.set_flag.ensures.flag ∙ ap (map (flagged c.args.window.0 c.args.flag)) (c.windows.view_is ∙ c.in_ok-windows.ensures)
