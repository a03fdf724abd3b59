-- Each row has its points once, and each row is there once; each point comes after those before it.
use Rattle.region_box.proofs.Once.{point_once}
use Rattle.region_box.proofs.Order.{points_order}
use Rattle.region_box.proofs.laws.screens_have_their_points.Goals as goal

pub returns : goal.returns
returns c = record { once = point_once; order = points_order }
