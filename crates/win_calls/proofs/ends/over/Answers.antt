use Rattle.win_calls.proofs.TurnLaws.{over_accepts}
use Rattle.win_calls.proofs.ends.over.Goals as goal

pub returns-clause-accepts : goal.returns-clause-accepts
returns-clause-accepts c g h = over_accepts c.args.r c.args.err g h
