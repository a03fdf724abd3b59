use Rattle.std.proofs.Common.{◌<◌, refl, arith}
use Rattle.run_explorer.proofs.Telling.{found_more}
use Rattle.run_explorer.proofs.report.Found.add.Goals as goal

pub returns-clause-found : goal.returns-clause-found
returns-clause-found c = λ test s bound past runs are passes were.
    let some : 0 < c.args.self.now.count = omega arith in
    found_more test past runs c.args.self.now _ were passes some refl refl
