use Rattle.std.proofs.Common.{◌≡◌, ◌≤◌, take}
use Rattle.run_explorer.specs.Parts.{IsShareOf}
use Rattle.run_explorer.proofs.part.share_of.Given as goal

abbrev pub invariant-loop-step : goal.invariant-loop-step
invariant-loop-step l = record {
  share : IsShareOf l.count (take l.step-index l.steps) l.share;
  place : l.place ≡ l.step-index;
  few : l.share.turns ≤ l.step-index;
}
