use Rattle.screen_owners.proofs.CornerLaws.{box_ways, no_ways}
use Rattle.screen_owners.proofs.ShareLaws.{near_more}
use Rattle.std.proofs.Common.{arith}
use Rattle.screen_owners.proofs.corners.box_shown.Goals as goal

pub part_shown-requires : goal.part_shown-requires
part_shown-requires c = near_more 4294967295 4294967296 _ (omega arith) c.corner_in-corner.ensures.near

pub returns-in-Some : goal.returns-in-Some
returns-in-Some c = box_ways c.args.tree.now.live c.args.tree.now.last c.requires c.args.screen.width c.args.screen.height c.args.w c.in-Some.row.now c.corner_in-corner.result c.part_shown.result c.in-Some.ensures c.corner_in-corner.ensures.corner c.part_shown.ensures

pub returns-in-None : goal.returns-in-None
returns-in-None c z children p q on some d = no_ways c.args.tree.now.live c.args.tree.now.last c.requires z children p q c.args.w _ c.in-None.ensures some d
