use Rattle.std.proofs.Common.{sym, ◌∙◌}
use Rattle.script_tree.specs.Pieces.{Going}
use Rattle.script_tree.specs.Values.{start}
use Rattle.win_calls.specs.declared.compound.Compound.TheVariants.{SetFocus}
use Rattle.win_calls.specs.declared.compound.Next.TheVariants.{Done}
use Rattle.win_calls.specs.Table.{begun, started}
use Rattle.dialog_keys.specs.declared.stage.Stage.TheVariants.{Over}
use Rattle.dialog_keys.specs.Traces.{walked}
use Rattle.dialog_keys.proofs.TraceLaws.{carry, step_of, focuses_leads, stays_leads}
use Rattle.dialog_keys.proofs.steps.chooses.Goals as goal

pub returns-in-Some-clause-follows : goal.returns-in-Some-clause-follows
returns-in-Some-clause-follows c s n k forwards ws v h =
    let ps = begun (SetFocus c.in-Some.window) in
    focuses_leads s n k forwards ws c.in-Some.window start _ _ (sym (c.next_control.ensures k forwards ws v h) ∙ c.in-Some.is)
    (c.focuses.ensures.follows s n ps (Going start) (c.next-next.ensures.follows s n ps ps (Going start) (Going start) (c.of-focus.ensures.stands start) started))

pub returns-in-None-clause-follows : goal.returns-in-None-clause-follows
returns-in-None-clause-follows c s n k forwards ws v h =
    carry s n (walked k forwards ws) (step_of Over (Done 0 0)) c.over.result c.over.ensures (stays_leads s n k forwards ws (sym (c.next_control.ensures k forwards ws v h) ∙ c.in-None.is))
