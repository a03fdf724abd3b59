use Rattle.std.proofs.Common.{◌≡◌, ◌≤◌, take, reverse}
use Rattle.log_text.specs.Ends.{used}
use Rattle.illegal_text.proofs.ending.used.Given as goal

abbrev pub invariant-loop-entry : goal.invariant-loop-entry
invariant-loop-entry l = record {
  count : l.count ≡ used (reverse (take l.entry-index l.history)) l.actor;
  within : l.count ≤ l.entry-index;
}
