use Rattle.win_calls.proofs.TurnLaws.{carry, asks_leads}
use Rattle.win_calls.proofs.StateLaws.{fresh_leads, ready_leads, asked_leads, running_leads, leaving_leads}
use Rattle.win_calls.proofs.state.goes_on.Goals as goal

pub returns-in-Fresh-clause-follows : goal.returns-in-Fresh-clause-follows
returns-in-Fresh-clause-follows c s n ps qs st sq h m =
    fresh_leads s n c.args.stage c.args.got c.in-Fresh.compound ps qs st sq _ _ c.in-Fresh.is c.requires h m (λ v. c.begins.ensures.follows s n v)

pub returns-in-Answered-clause-follows : goal.returns-in-Answered-clause-follows
returns-in-Answered-clause-follows c s n ps qs st sq h m =
    asked_leads s n c.args.stage c.args.got c.in-Asked.turn c.in-Answered.answer ps qs st sq _ _ c.in-Asked.is c.in-Answered.is h m (λ v t. c.answered.ensures.follows s n v t)

pub returns-in-Returned-clause-follows : goal.returns-in-Returned-clause-follows
returns-in-Returned-clause-follows c s n ps qs st sq h m =
    running_leads s n c.args.stage c.args.got c.in-Running.turn c.in-Running.then c.in-Running.first c.in-Returned.value ps qs st sq _ _ c.in-Running.is c.in-Returned.is h m (λ run p rs w t b. c.returned.ensures.follows s n run p rs w t b)

pub returns-in-Answered-got-clause-follows : goal.returns-in-Answered-got-clause-follows
returns-in-Answered-got-clause-follows c s n ps qs st sq h m =
    leaving_leads s n c.args.stage c.args.got c.in-Leaving.turn c.in-Leaving.then c.in-Leaving.first c.in-Leaving.value c.in-Answered-got.answer ps qs st sq _ _ c.in-Leaving.is c.in-Answered-got.is h m (λ rs v t b. c.left.ensures.follows s n rs v t b)

pub returns-in-Ready-clause-follows : goal.returns-in-Ready-clause-follows
returns-in-Ready-clause-follows c s n ps qs st sq h m =
    ready_leads s n c.args.stage c.args.got c.in-Ready.turn ps qs st sq _ _ c.in-Ready.is c.requires h m (λ v t. carry s n _ _ _ _ c.asks.result c.asks.ensures.step (asks_leads s n c.in-Ready.turn v t))
