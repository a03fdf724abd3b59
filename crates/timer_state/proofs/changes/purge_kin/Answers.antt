use Rattle.std.proofs.Common.{rules}
use Rattle.timer_state.specs.Changes.{goes_with}
use Rattle.timer_state.proofs.changes.purge_kin.Goals as goal

pub returns : goal.returns
returns c = c.purge_those.ensures (λ w. goes_with c.args.tree.now.live c.args.window.0 w) (λ w b k. search rules)
