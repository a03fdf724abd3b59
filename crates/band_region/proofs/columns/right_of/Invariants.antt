use Rattle.std.proofs.Common.{take}
use Rattle.std.specs.Prelude.{◌≤ℤ◌, All}
use Rattle.band_region.proofs.columns.right_of.Given as goal

abbrev pub invariant-loop-place : goal.invariant-loop-place
invariant-loop-place l = All (λ r. r.r ≤ℤ l.x) (take l.place l.row)
