use Rattle.std.proofs.Common.{◌∙◌, sym}
use Rattle.win_order.proofs.EntryLaws.{owner_none, owner_some}
use Rattle.win_order.proofs.standings.Standings.owner_of.Goals as goal

pub returns-in-Some : goal.returns-in-Some
returns-in-Some c = sym (owner_some c.args.self.now c.args.window.0 c.in-Some.known (sym c.known.ensures ∙ c.in-Some.is))

pub returns-in-None : goal.returns-in-None
returns-in-None c = sym (owner_none c.args.self.now c.args.window.0 (sym c.known.ensures ∙ c.in-None.is))
