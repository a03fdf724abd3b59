use Rattle.std.proofs.Common.{◌≡◌, take}
use Rattle.win_num.specs.declared.shapes.Point.{Point}
use Rattle.band_region.specs.Regions.{region_has}
use Rattle.dirty_windows.specs.Carrying.{brings_any}
use Rattle.dirty_windows.proofs.carry.carried_all.Given as goal

abbrev pub invariant-loop-k : goal.invariant-loop-k
invariant-loop-k l = (p : Point) → region_has l.all p ≡ brings_any l.entries l.old l.new l.screen l.shift (take l.k l.moved) p
