use Rattle.std.proofs.Common.{◌∙◌, sym}
use Rattle.user_model.proofs.TellerLaws.{steps, answered}
use Rattle.user_model.proofs.teller.AloneTeller.turn.Goals as goal

pub returns-clause-goes_on : goal.returns-clause-goes_on
returns-clause-goes_on g c =
    let m = g.M.Machine in
    let old = c.args.self.now.machine in
    let new = c.step.new.self in
    steps (m.setup old) (m.setup new) (m.past old) (m.past new) c.args.who c.args.call c.step.ensures.setup c.in_ok-answer.ensures.entry

pub returns-clause-told : goal.returns-clause-told
returns-clause-told g c =
    let m = g.M.Machine in
    let old = c.args.self.now.machine in
    let new = c.step.new.self in
    answered (m.setup old) (m.setup new) (m.past old) (m.past new) c.args.who c.args.call c.in_ok-answer.answer (sym c.barred.ensures ∙ c.if-barred.false) c.in_ok-answer.ensures.answer c.in_ok-answer.ensures.entry
