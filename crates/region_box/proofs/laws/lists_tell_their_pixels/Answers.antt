-- The points that pass are as many as the pixels of their bounds only where they are all of those.
use Rattle.region_box.proofs.Listed.{kind_tells, bounds_tell}
use Rattle.region_box.proofs.laws.lists_tell_their_pixels.Goals as goal

pub returns : goal.returns
returns c = record { kind = kind_tells; bounds = bounds_tell }
