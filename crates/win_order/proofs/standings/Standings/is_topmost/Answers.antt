use Rattle.std.proofs.Common.{◌∙◌, ap}
use Rattle.win_order.specs.Standings.{is_topmost}
use Rattle.win_order.proofs.standings.Standings.is_topmost.Goals as goal

pub returns : goal.returns
returns c = c.contains.ensures ∙ (c.self.invariant.2.each c.args.window.0 ∙ ap (λ l. is_topmost l c.args.window.0) c.self.view_is)
