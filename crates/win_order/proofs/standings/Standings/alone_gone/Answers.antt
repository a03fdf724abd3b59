use Rattle.std.proofs.Common.{◌≡◌, ◌∙◌, subst, arith}
use Rattle.std.specs.Map.{keys_of}
use Rattle.win_order.specs.Lone.{GoesAlone}
use Rattle.win_order.proofs.LoneLaws.{found_alone}
use Rattle.win_order.proofs.standings.Standings.alone_gone.Goals as goal

pub returns : goal.returns
returns c =
    let es = c.self.inside.windows.entries in
    let ws = c.as_slice-windows.result.now in
    let same : ws ≡ keys_of es = c.as_slice-windows.ensures ∙ c.keys.ensures.rest in
    let at = c.same_front-at.result in
    let found = found_alone es ws c.args.staying.now at c.self.invariant.0 c.self.invariant.1 same (omega arith) c.same_front-at.ensures.same (c.is_same.ensures c.if-not-is_same.false) in
    subst (GoesAlone c.args.staying.now _) c.self.view_is found
