use Rattle.std.proofs.Common.{◌∙◌, ap}
use Rattle.win_order.specs.Entries.{known_of}
use Rattle.win_order.proofs.EntryLaws.{known_lookup}
use Rattle.win_order.proofs.standings.Standings.known.Goals as goal

pub returns : goal.returns
returns c = c.copied.ensures ∙ (c.get.ensures.value ∙ (known_lookup c.self.inside.windows.entries c.self.invariant.0 c.args.window.0 ∙ ap (λ l. known_of l c.args.window.0) c.self.view_is))
