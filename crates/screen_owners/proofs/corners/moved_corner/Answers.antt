use Rattle.std.proofs.Common.{arith}
use Rattle.std.proofs.lemmas.Int.{to_z-of_z}
use Rattle.screen_owners.proofs.corners.moved_corner.Goals as goal

pub returns-clause-x : goal.returns-clause-x
returns-clause-x c = grind (arith, to_z-of_z)

pub returns-clause-y : goal.returns-clause-y
returns-clause-y c = grind (arith, to_z-of_z)
