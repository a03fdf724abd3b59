use Rattle.screen_owners.proofs.Cuts.{cut_some}
use Rattle.screen_owners.proofs.covers.cut.Goals as goal

pub returns : goal.returns
returns c = cut_some c.args.region.now c.in_ok-hidden.hidden c.in_ok-left.left c.args.part c.in_ok-hidden.ensures c.in_ok-left.ensures
