use Rattle.std.proofs.Common.{ap, ◌∙◌}
use Rattle.script_tree.specs.declared.variables.Variables.{Variables}
use Rattle.win_calls.specs.declared.compound.Next.TheVariants.{Done}
use Rattle.win_calls.specs.declared.stage.Stage.TheVariants.{Over}
use Rattle.win_calls.specs.declared.stage.Step.{Step}
use Rattle.win_calls.proofs.TurnLaws.{carry, settles_leads}
use Rattle.win_calls.proofs.ends.ended.Goals as goal

pub returns-clause-follows : goal.returns-clause-follows
returns-clause-follows c s n v =
    let end : Variables → Step = λ w. record { stage = Over; next = Done w.last_result w.last_error } in
    carry s n _ _ _ _ c.over.result (c.over.ensures.step ∙ ap end c.settle.ensures) (settles_leads s n c.args.statement c.args.answer c.args.value v c.start-variables.result)
