use Rattle.user_desk.proofs.Logs.{legal_after, if_answered}
use Rattle.user_desk.proofs.shared.SharedJournaled.step.Goals as goal

pub returns-clause-lawful : goal.returns-clause-lawful
returns-clause-lawful g c =
    legal_after (g.M.Machine.setup c.args.self.now.machine) (g.M.Machine.setup c.step.new.self) (g.M.Machine.past c.args.self.now.machine) (g.M.Machine.past c.step.new.self) c.args.call.0 c.args.call.1 c.step.result c.step.ensures.entry c.step.ensures.err c.step.ensures.setup

pub returns-clause-answered : goal.returns-clause-answered
returns-clause-answered g c =
    if_answered (g.M.Machine.setup c.args.self.now.machine) (g.M.Machine.past c.args.self.now.machine) (g.M.Machine.past c.step.new.self) c.args.call.0 c.args.call.1 c.step.result c.step.ensures.answer c.step.ensures.entry
