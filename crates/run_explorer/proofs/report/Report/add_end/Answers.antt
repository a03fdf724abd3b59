use Rattle.std.proofs.Common.{refl}
use Rattle.run_explorer.proofs.Telling.{told_done, told_stuck, told_spent, told_cut}
use Rattle.run_explorer.proofs.report.Report.add_end.Goals as goal

pub returns-in-Done-clause-told : goal.returns-in-Done-clause-told
returns-in-Done-clause-told c = λ s bound past runs are ended were. told_done s bound runs past c.args.steps.now c.args.self.now _ c.args.end were are ended refl refl c.in-Done.is refl refl refl

pub returns-in_ok-add-in-Stuck-clause-told : goal.returns-in_ok-add-in-Stuck-clause-told
returns-in_ok-add-in-Stuck-clause-told c = λ s bound past runs are ended were. told_stuck s bound runs past c.args.steps.now c.args.self.now _ c.args.end were are ended refl refl c.in-Stuck.is refl refl c.in_ok-add-in-Stuck.ensures.found

pub returns-in_ok-add-in-Spent-clause-told : goal.returns-in_ok-add-in-Spent-clause-told
returns-in_ok-add-in-Spent-clause-told c = λ s bound past runs are ended were. told_spent s bound runs past c.args.steps.now c.args.self.now _ c.args.end were are ended refl refl c.in-Spent.is refl refl c.in_ok-add-in-Spent.ensures.found

pub returns-in-Cut-clause-told : goal.returns-in-Cut-clause-told
returns-in-Cut-clause-told c = λ s bound past runs are ended were. told_cut s bound runs past c.args.steps.now c.args.self.now _ c.args.end were are ended refl refl c.in-Cut.is refl refl refl
