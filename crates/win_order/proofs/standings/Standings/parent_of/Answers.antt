use Rattle.std.proofs.Common.{◌∙◌, sym}
use Rattle.win_order.proofs.EntryLaws.{parent_none, parent_some}
use Rattle.win_order.proofs.standings.Standings.parent_of.Goals as goal

pub returns-in-Some : goal.returns-in-Some
returns-in-Some c = sym (parent_some c.args.self.now c.args.window.0 c.in-Some.known (sym c.known.ensures ∙ c.in-Some.is))

pub returns-in-None : goal.returns-in-None
returns-in-None c = sym (parent_none c.args.self.now c.args.window.0 (sym c.known.ensures ∙ c.in-None.is))
