use Rattle.screen_owners.proofs.JoinedLaws.{copied_outside}
use Rattle.screen_owners.proofs.joined.left_of.Goals as goal

pub returns : goal.returns
returns c = copied_outside c.args.region.now c.args.part.now c.in_ok-copy.copy c.bounds.result c.in_ok-copy.ensures (c.meets.ensures c.if-meets.false) c.bounds.ensures.around
