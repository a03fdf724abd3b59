use Rattle.user_model.specs.declared.call.Call.TheVariants.{ChildAfter}
use Rattle.win_calls.specs.declared.compound.Next.TheVariants.{Make}
use Rattle.dialog_keys.specs.declared.stage.Stage.TheVariants.{Walking}
use Rattle.dialog_keys.specs.Traces.{tells_open, seen, style_told}
use Rattle.dialog_keys.proofs.TraceLaws.{carry, step_of, asks_child_leads, fresh_leads, walking_leads, looking_leads, focusing_leads, sending_leads}
use Rattle.dialog_keys.proofs.steps.goes_on.Goals as goal

pub returns-in-Fresh-clause-follows : goal.returns-in-Fresh-clause-follows
returns-in-Fresh-clause-follows c s n p q h m = fresh_leads s n c.args.stage c.args.got c.in-Fresh.key p q _ _ c.in-Fresh.is h m (c.begins.ensures.follows s n)

pub returns-in-Answered-clause-follows : goal.returns-in-Answered-clause-follows
returns-in-Answered-clause-follows c s n p q h m =
    walking_leads s n c.args.stage c.args.got c.in-Walking.walk c.in-Answered.answer p q _ _ c.in-Walking.is c.in-Answered.is h m (λ k forwards ws v x. c.child_told.ensures.follows s n k forwards ws v x)

pub returns-in-Answered-got-clause-follows : goal.returns-in-Answered-got-clause-follows
returns-in-Answered-got-clause-follows c s n p q h m =
    let a = c.in-Answered-got.answer in
    let walk = c.seen.result in
    looking_leads s n c.args.stage c.args.got c.in-Looking.walk a p q _ _ c.in-Looking.is c.in-Answered-got.is h m
    (λ k forwards ws w x. carry s n (style_told k forwards ws w a) (step_of (Walking walk) (Make (ChildAfter walk.dialog walk.child))) c.asks_child.result c.asks_child.ensures (asks_child_leads s n walk k forwards (seen ws w (tells_open a)) w (c.seen.ensures k forwards ws w x)))

pub returns-in-Focusing-clause-follows : goal.returns-in-Focusing-clause-follows
returns-in-Focusing-clause-follows c s n p q h m =
    focusing_leads s n c.args.stage c.args.got c.in-Focusing.window c.in-Focusing.focus p q _ _ c.in-Focusing.is h m (λ ps qs st sq k i. c.focuses.ensures.follows s n qs sq (c.next-next.ensures.follows s n ps qs st sq k i))

pub returns-in-Sending-clause-follows : goal.returns-in-Sending-clause-follows
returns-in-Sending-clause-follows c s n p q h m =
    sending_leads s n c.args.stage c.args.got c.in-Sending.send p q _ _ c.in-Sending.is h m (λ ps qs st sq k i. c.sends.ensures.follows s n qs sq (c.next-next-in-Sending.ensures.follows s n ps qs st sq k i))
