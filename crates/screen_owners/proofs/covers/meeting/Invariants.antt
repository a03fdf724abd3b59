use Rattle.std.proofs.Common.{◌≡◌, take}
use Rattle.std.specs.Prelude.{◌&&◌}
use Rattle.win_num.specs.declared.shapes.Point.{Point}
use Rattle.band_region.specs.Regions.{region_has}
use Rattle.screen_owners.specs.Shares.{any_covers}
use Rattle.screen_owners.proofs.covers.meeting.Given as goal

abbrev pub invariant-loop-c : goal.invariant-loop-c
invariant-loop-c l = (p : Point) → (region_has l.region p && any_covers l.met.items p) ≡ (region_has l.region p && any_covers (take l.c-index l.covers) p)
