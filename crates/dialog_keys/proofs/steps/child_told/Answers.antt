use Rattle.std.proofs.Common.{sym, ◌∙◌}
use Rattle.user_model.specs.declared.call.Call.TheVariants.{StyleOf}
use Rattle.win_calls.specs.declared.compound.Next.TheVariants.{Make, Done}
use Rattle.dialog_keys.specs.declared.stage.Stage.TheVariants.{Looking, Over}
use Rattle.dialog_keys.specs.Traces.{looking, walked, refused}
use Rattle.dialog_keys.proofs.TraceLaws.{carry, from_point, step_of, stops_leads, asks_style_leads, told_error, told_child, told_none}
use Rattle.dialog_keys.proofs.steps.child_told.Goals as goal

pub returns-in-Some-clause-follows : goal.returns-in-Some-clause-follows
returns-in-Some-clause-follows c s n k forwards ws v h =
    from_point s n (refused c.in-Some.err) _ _ _ (told_error k forwards ws c.args.answer c.in-Some.err (sym c.error_of.ensures ∙ c.in-Some.is))
    (carry s n (refused c.in-Some.err) (step_of Over (Done 0 c.in-Some.err)) c.over.result c.over.ensures (stops_leads s n c.in-Some.err))

pub returns-in-Some-child_of-clause-follows : goal.returns-in-Some-child_of-clause-follows
returns-in-Some-child_of-clause-follows c s n k forwards ws v h =
    let w = c.in-Some-child_of.child in
    let walk = c.at.result in
    from_point s n (looking k forwards ws w) _ _ _ (told_child k forwards ws c.args.answer w (sym c.error_of.ensures ∙ c.in_default.is) (sym c.child_of.ensures ∙ c.in-Some-child_of.is))
    (carry s n (looking k forwards ws w) (step_of (Looking walk) (Make (StyleOf walk.child))) c.asks_style.result c.asks_style.ensures (asks_style_leads s n walk k forwards ws w (c.at.ensures k forwards ws v h)))

pub returns-in-None-clause-follows : goal.returns-in-None-clause-follows
returns-in-None-clause-follows c s n k forwards ws v h =
    from_point s n (walked k forwards ws) _ _ _ (told_none k forwards ws c.args.answer (sym c.error_of.ensures ∙ c.in_default.is) (sym c.child_of.ensures ∙ c.in-None.is)) (c.chooses.ensures.follows s n k forwards ws v h)
