use Rattle.band_region.proofs.Sets.{square_stays}
use Rattle.drawing_tests.proofs.regions.moved_square.Goals as goal

pub shifted-requires : goal.shifted-requires
shifted-requires c = square_stays _ c.in-Ok.square c.in_ok-region.ensures c.in-Ok.ensures.ok
