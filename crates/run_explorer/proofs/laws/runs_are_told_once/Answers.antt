use Rattle.run_explorer.proofs.AllRuns.{told_once}
use Rattle.run_explorer.proofs.laws.runs_are_told_once.Goals as goal

pub returns : goal.returns
returns c = λ s bound part runs first. told_once runs first.rising
