use Rattle.std.proofs.Common.{List, ap, ◌∙◌}
use Rattle.win_num.specs.declared.shapes.Rect.{Rect}
use Rattle.band_region.specs.Regions.{region_has}
use Rattle.dirty_windows.proofs.Exposing.{none_of_same}
use Rattle.dirty_windows.proofs.change.left_of.Goals as goal

pub returns-then-same : goal.returns-then-same
returns-then-same c p = ap (λ (r : List Rect). region_has r p) c.empty.ensures ∙ none_of_same (region_has c.args.part.now p) (region_has c.args.owned.now p) (c.same.ensures.0 c.if-same.true p)
