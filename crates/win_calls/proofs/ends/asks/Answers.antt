use Rattle.win_calls.proofs.TurnLaws.{asked_accepts}
use Rattle.win_calls.proofs.ends.asks.Goals as goal

pub returns-clause-accepts : goal.returns-clause-accepts
returns-clause-accepts c g h = asked_accepts c.args.turn g h
