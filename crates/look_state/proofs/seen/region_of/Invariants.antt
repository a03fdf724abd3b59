use Rattle.std.proofs.Common.{◌≡◌, drop}
use Rattle.look_state.specs.Looks.{seen_entry}
use Rattle.look_state.proofs.seen.region_of.Given as goal

abbrev pub invariant-loop-s : goal.invariant-loop-s
invariant-loop-s l = seen_entry (drop l.s-index l.seen) l.w.0 ≡ seen_entry l.seen l.w.0
