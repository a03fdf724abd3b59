use Rattle.win_calls.proofs.TurnLaws.{carry, again_leads, giving_leads, at_then}
use Rattle.win_calls.proofs.turns.resumed.Goals as goal

pub returns-in-Again-clause-follows : goal.returns-in-Again-clause-follows
returns-in-Again-clause-follows c s n v h =
    at_then s n c.args.turn c.args.then _ _ _ _ c.in-Again.is (carry s n _ _ _ _ c.asks.result c.asks.ensures.step (again_leads s n c.args.turn c.args.first v h))

pub returns-in-Giving-clause-follows : goal.returns-in-Giving-clause-follows
returns-in-Giving-clause-follows c s n v h =
    at_then s n c.args.turn c.args.then _ _ _ _ c.in-Giving.is (giving_leads s n c.args.turn c.in-Giving.answer c.args.first v _ _ (c.gives.ensures.follows s n v h))
