use Rattle.std.proofs.Common.{sym, ◌∙◌}
use Rattle.user_pool.proofs.OneRun.{run_lawful}
use Rattle.user_pool.proofs.NeverCut.{never_cut}
use Rattle.user_pool.proofs.run.run_listed.Goals as goal

pub returns-clause-lawful : goal.returns-clause-lawful
returns-clause-lawful g c = run_lawful c.args.script.now (g.M.Machine.past c.run_on.new.machine) c.in_ok-end.ensures.run.run

pub returns-clause-over : goal.returns-clause-over
returns-clause-over g c = λ cut. never_cut c.args.script.now (g.M.Machine.past c.run_on.new.machine) c.in_ok-end.ensures.run.run c.in_ok-end.ensures.run.over (sym c.in_ok-end.ensures.end ∙ cut)
