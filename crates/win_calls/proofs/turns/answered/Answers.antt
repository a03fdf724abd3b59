use Rattle.std.proofs.Common.{sym, ap, ◌∙◌, None}
use Rattle.win_calls.specs.declared.stage.Then.{Then}
use Rattle.win_calls.specs.declared.stage.Stage.TheVariants.{Running}
use Rattle.win_calls.specs.declared.stage.Step.{Step}
use Rattle.win_calls.proofs.TurnLaws.{carry, runs_lead}
use Rattle.win_calls.proofs.turns.answered.Goals as goal

pub returns-in-Some-clause-follows : goal.returns-in-Some-clause-follows
returns-in-Some-clause-follows c s n v h =
    let step : Then → Step = λ t. record { stage = Running c.args.turn t None; next = c.in-Some.next } in
    carry s n _ _ _ _ c.runs.result (c.runs.ensures.step ∙ ap step c.after_run.ensures) (runs_lead s n c.args.turn c.args.answer c.in-Some.next v h (sym c.in-Some.is ∙ c.procedure.ensures.first))

pub returns-in-None-clause-follows : goal.returns-in-None-clause-follows
returns-in-None-clause-follows c s n v h =
    c.stays.ensures.follows s n v h (sym c.in-None.is ∙ c.procedure.ensures.first)
