use Rattle.std.proofs.Common.{◌≡◌, ◌∙◌, List, ap, sym, subst}
use Rattle.win_order.specs.Kept.{IsKept}
use Rattle.win_order.specs.Layers.{Layers, placed, relisted}
use Rattle.win_order.specs.Siblings.{Siblings}
use Rattle.win_order.specs.Standing.{Standing}
use Rattle.win_order.specs.Standings.{parent_of}
use Rattle.win_order.proofs.KeptLaws.{placed_kept}
use Rattle.win_order.proofs.order.Order.place.Goals as goal

pub invariant_of-self-2 : goal.invariant_of-self-2
invariant_of-self-2 c =
    let now = c.args.self.now in
    let z : Layers = record { standings = c.self.inside.standings; families = c.self.inside.families } in
    let lists = c.in_ok-relist.ensures.ok ∙ (ap (λ p. relisted c.in_ok-standings.standings p c.args.w c.args.after z.families) c.parent_of-parent.ensures ∙ ap (λ l. relisted l (parent_of z.standings c.args.w.0) c.args.w c.args.after z.families) c.in_ok-standings.ensures) in
    let whole : record { standings = c.in_ok-standings.standings; families = c.relist.new.families } ≡ placed c.args.w c.args.after z =
    ap (λ (l : List Standing). let y : Layers = record { standings = l; families = c.relist.new.families } in y) c.in_ok-standings.ensures ∙ ap (λ (l : List Siblings). let y : Layers = record { standings = (placed c.args.w c.args.after z).standings; families = l } in y) lists in
    subst IsKept (sym (whole ∙ ap (placed c.args.w c.args.after) c.self.view_is)) (placed_kept c.args.w c.args.after now (subst IsKept c.self.view_is c.self.invariant) c.requires)
