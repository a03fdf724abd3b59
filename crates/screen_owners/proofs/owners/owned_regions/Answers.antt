use Rattle.std.proofs.lemmas.Result.{IfOk-weaker}
use Rattle.screen_owners.specs.Owners.{AreOwners, AreOwnersIn}
use Rattle.screen_owners.proofs.ChangedParts.{whole_owners}
use Rattle.screen_owners.proofs.owners.owned_regions.Goals as goal

pub returns : goal.returns
returns c =
    IfOk-weaker c.regions_in.result (AreOwnersIn c.args.tree.now.live c.args.order.now c.in_ok-part.part) (AreOwners c.args.tree.now.live c.args.order.now c.args.screen.width c.args.screen.height)
    (λ os own. whole_owners c.args.tree.now.live c.args.order.now c.in_ok-part.part c.args.screen os c.in_ok-part.ensures.screen c.in_ok-part.ensures.pixels own)
    c.regions_in.ensures
