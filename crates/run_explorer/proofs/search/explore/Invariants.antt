use Rattle.std.proofs.Common.{◌≡◌, ◌≤◌, false}
use Rattle.std.specs.Prelude.{option_copied}
use Rattle.run_explorer.specs.Searches.{HaveBeenMade, ways_from, actors_along}
use Rattle.run_explorer.specs.Reports.{IsSized}
use Rattle.run_explorer.proofs.search.explore.Given as goal

abbrev pub invariant-loop-report : goal.invariant-loop-report
invariant-loop-report g l = record {
  made : HaveBeenMade l.script l.bound l.part (option_copied l.name) l.path l.report;
  sized : IsSized l.report;
  few : l.report.runs ≤ l.limit;
  more : l.report.is_all ≡ false;
}

-- each way turns off at a higher thread than the one before it
abbrev pub decreases-loop-report : goal.decreases-loop-report
decreases-loop-report g l = ways_from 2097152 (actors_along l.path)
