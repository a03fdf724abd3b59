use Rattle.win_calls.proofs.TurnLaws.{running_accepts}
use Rattle.win_calls.proofs.turns.runs.Goals as goal

pub returns-clause-accepts : goal.returns-clause-accepts
returns-clause-accepts c g h = running_accepts c.args.turn c.args.then c.args.first c.args.next g c.requires h
