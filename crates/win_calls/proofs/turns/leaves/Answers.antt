use Rattle.win_calls.proofs.TurnLaws.{leaving_accepts}
use Rattle.win_calls.proofs.turns.leaves.Goals as goal

pub returns-clause-accepts : goal.returns-clause-accepts
returns-clause-accepts c g h = leaving_accepts c.args.turn c.args.then c.args.first c.args.value g h
