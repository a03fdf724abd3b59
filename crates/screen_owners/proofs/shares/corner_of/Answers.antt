use Rattle.std.proofs.Common.{arith}
use Rattle.std.proofs.lemmas.Int.{to_z-of_z}
use Rattle.screen_owners.proofs.ShareLaws.{moved_row}
use Rattle.screen_owners.proofs.shares.corner_of.Goals as goal

pub returns-in-Some : goal.returns-in-Some
returns-in-Some c = moved_row c.args.tree.now.live c.args.w c.in-Some.row.now c.args.corner _ c.in-Some.ensures (grind (arith, to_z-of_z)) (grind (arith, to_z-of_z))
