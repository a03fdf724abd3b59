use Rattle.std.proofs.Common.{◌≡◌, false, subst}
use Rattle.std.specs.List.{list_any}
use Rattle.screen_owners.proofs.Cuts.{is_of}
use Rattle.screen_owners.proofs.ShareLaws.{not_covered}
use Rattle.screen_owners.proofs.shares.share_met.Goals as goal

pub returns-in-None : goal.returns-in-None
returns-in-None c = not_covered c.args.tree.now.live c.args.order.now c.args.tree.now.last c.args.part.now c.requires.ordered c.requires.children c.args.parent.now c.args.w c.requires.parent c.requires.below (subst (λ cs. list_any (is_of c.args.w.0) cs ≡ false) c.deref.ensures.value c.in-None.ensures.none)
