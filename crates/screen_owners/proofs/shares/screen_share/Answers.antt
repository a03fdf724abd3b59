use Rattle.std.proofs.Common.{refl, subst}
use Rattle.std.specs.List.{All}
use Rattle.screen_owners.specs.Shares.{IsLeft}
use Rattle.screen_owners.proofs.ShareLaws.{first_share}
use Rattle.screen_owners.proofs.shares.screen_share.Goals as goal

pub returns : goal.returns
returns c = first_share c.args.tree.now.live c.args.order.now c.args.tree.now.last c.args.part.now c.requires.ordered c.requires.children _ refl refl refl c.in_ok-taken.ensures c.in_ok-covers.ensures (subst (λ cs. All (IsLeft c.in_ok-taken.taken cs) c.in_ok-lefts.lefts.items) c.deref.ensures.value c.in_ok-lefts.ensures)
