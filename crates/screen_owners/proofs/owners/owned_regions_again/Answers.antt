use Rattle.screen_owners.proofs.JoinedLaws.{joined_owners}
use Rattle.screen_owners.proofs.owners.owned_regions_again.Goals as goal

pub returns : goal.returns
returns c = joined_owners c.args.tree.now.live c.args.order.now c.args.tree.now.last c.in_ok-owners.ensures.ordered c.requires c.args.part.now c.args.old.now c.in_ok-new.new c.in_ok-owners.owners c.in_ok-owners.ensures.joined c.in_ok-new.ensures
