use Rattle.std.proofs.Common.{take}
use Rattle.std.specs.Prelude.{◌≤ℤ◌, All}
use Rattle.band_region.proofs.bands.below.Given as goal

abbrev pub invariant-loop-place : goal.invariant-loop-place
invariant-loop-place l = All (λ r. r.b ≤ℤ l.y) (take l.place l.rects)
