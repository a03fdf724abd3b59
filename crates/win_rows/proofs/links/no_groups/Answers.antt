use Rattle.std.proofs.lemmas.Grind.{common_steps}
use Rattle.std.proofs.Common.{arith}
use Rattle.win_rows.proofs.links.no_groups.Goals as goal

pub groups-preserved : goal.groups-preserved
groups-preserved c = grind (arith, common_steps)
