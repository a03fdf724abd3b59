use Rattle.clip_board.proofs.Logs.{lawful_after, if_answered}
use Rattle.clip_board.proofs.shared.ClipJournaled.step.Goals as goal

pub returns-clause-lawful : goal.returns-clause-lawful
returns-clause-lawful c =
    lawful_after c.args.self.now c.step.new.self c.args.call.0 c.args.call.1 c.step.result c.step.ensures.entry c.step.ensures.err

pub returns-clause-answered : goal.returns-clause-answered
returns-clause-answered c =
    if_answered c.args.self.now c.step.new.self c.args.call.0 c.args.call.1 c.step.result c.step.ensures.answer c.step.ensures.entry
