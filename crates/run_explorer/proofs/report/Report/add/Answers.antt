use Rattle.std.proofs.Common.{refl, sym, ◌∙◌}
use Rattle.run_explorer.proofs.Telling.{told_marked, told_unmarked}
use Rattle.run_explorer.proofs.report.Report.add.Goals as goal

pub returns-in_ok-add-clause-told : goal.returns-in_ok-add-clause-told
returns-in_ok-add-clause-told c = λ s bound name past runs are ended marked told.
    told_marked s bound name runs past c.args.steps.now c.args.self.now c.add_end.new.self _ (c.in_ok-add_end.ensures.told s bound past runs are ended told.ends) told c.in_ok-add_end.ensures.marked c.in_ok-add_end.ensures.asks
    are (sym marked ∙ c.if-marks.true) c.in_ok-add.ensures.found refl refl refl refl refl refl

pub returns-else-marks-clause-told : goal.returns-else-marks-clause-told
returns-else-marks-clause-told c = λ s bound name past runs are ended marked told.
    told_unmarked s name runs past c.args.self.now c.add_end.new.self (c.in_ok-add_end.ensures.told s bound past runs are ended told.ends) told c.in_ok-add_end.ensures.marked c.in_ok-add_end.ensures.asks (sym marked ∙ c.if-marks.false)
