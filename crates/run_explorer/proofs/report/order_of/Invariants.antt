use Rattle.std.proofs.Common.{◌≡◌, ◌≤◌, length, take}
use Rattle.run_explorer.proofs.Telling.{moved}
use Rattle.run_explorer.proofs.report.order_of.Given as goal

abbrev pub invariant-loop-step : goal.invariant-loop-step
invariant-loop-step l = record {
  is : l.numbers.items ≡ moved (take l.step-index l.steps);
  few : length l.numbers.items ≤ 65536;
}
