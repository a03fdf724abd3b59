use Rattle.std.proofs.Common.{◌∙◌, arith}
use Rattle.std.proofs.lemmas.Int.{ints}
use Rattle.band_region.proofs.Geometry.{box_same}
use Rattle.band_region.proofs.pieces.moved.Goals as goal

pub returns : goal.returns
returns c = c.known_rect.ensures ∙ box_same (omega (arith, ints)) (omega (arith, ints)) (omega (arith, ints)) (omega (arith, ints))
