use Rattle.std.proofs.Common.{◌≡◌, ◌-◌, drop, length, false}
use Rattle.std.specs.List.{list_any}
use Rattle.screen_owners.proofs.Cuts.{is_of}
use Rattle.screen_owners.proofs.covers.place_in.Given as goal

abbrev pub invariant-loop-k : goal.invariant-loop-k
invariant-loop-k l = list_any (is_of l.w.0) (drop (length l.covers - l.k) l.covers) ≡ false
