use Rattle.std.proofs.Common.{◌<◌, arith}
use Rattle.screen_owners.proofs.ShareLaws.{near_more, not_met}
use Rattle.screen_owners.proofs.shares.share_under.Goals as goal

pub part_met-requires : goal.part_met-requires
part_met-requires c =
    let small : c.args.parent.now.window.0 < 4294967296 = omega arith in
    near_more c.args.parent.now.window.0 4294967296 c.args.parent.now.corner (omega (arith, small)) c.requires.parent.near

pub returns-in-None : goal.returns-in-None
returns-in-None c = not_met c.args.tree.now.live c.args.order.now c.args.tree.now.last c.args.part.now c.requires.ordered c.requires.children c.args.parent.now c.args.w c.requires.parent c.requires.below c.in-None.ensures
