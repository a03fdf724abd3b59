use Rattle.script_text.proofs.FirstBad.{head_good, head_bad, code_good, code_bad}
use Rattle.script_text.proofs.reading.Reading.take_next.Goals as goal

pub returns-in-Some-clause-good : goal.returns-in-Some-clause-good
returns-in-Some-clause-good c = head_good c.is_head.result c.args.self.now c.args.text.now c.args.before c.in-Some.head c.in-Some.ensures c.is_head.ensures

pub returns-in-Some-clause-bad : goal.returns-in-Some-clause-bad
returns-in-Some-clause-bad c = head_bad c.is_head.result c.args.self.now c.args.text.now c.args.before c.in-Some.head c.in-Some.ensures c.is_head.ensures

pub returns-in-None-clause-good : goal.returns-in-None-clause-good
returns-in-None-clause-good c = code_good c.take.result c.args.self.now c.take.new.self c.args.text.now c.args.before c.in-None.ensures c.take.ensures.kept c.take.ensures.taken c.take.ensures.added c.take.ensures.sound

pub returns-in-None-clause-bad : goal.returns-in-None-clause-bad
returns-in-None-clause-bad c = code_bad c.take.result c.args.self.now c.args.text.now c.args.before c.in-None.ensures c.take.ensures.refused
