-- The least rectangle around the region is the one around its points.
use Rattle.win_num.specs.Rects.{box_in}
use Rattle.region_box.proofs.Agreement.{bounds_told}
use Rattle.region_box.proofs.told.told_bounds.Goals as goal

pub returns : goal.returns
returns c = λ width height test h. bounds_told width height test c.args.region.now (box_in c.bounds.result) h c.bounds.ensures.around c.bounds.ensures.empty
