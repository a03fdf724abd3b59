use Rattle.std.proofs.Common.{refl}
use Rattle.run_explorer.proofs.Telling.{found_first}
use Rattle.run_explorer.proofs.report.Found.add_first.Goals as goal

pub returns-clause-found : goal.returns-clause-found
returns-clause-found c = λ test s bound past runs are passes were. found_first test past runs c.args.self.now _ were passes c.requires.none refl (c.in_ok-self.ensures s bound past are)
