use Rattle.std.proofs.Common.{◌≡◌, sym, ap, ◌∙◌}
use Rattle.user_model.specs.declared.call.Call.TheVariants.{ChildAfter, Send}
use Rattle.script_tree.specs.Pieces.{Going}
use Rattle.script_tree.specs.Values.{start}
use Rattle.win_calls.specs.declared.compound.Next.TheVariants.{Make, Done}
use Rattle.win_calls.specs.Table.{made, started}
use Rattle.dialog_keys.specs.declared.stage.Stage.TheVariants.{Walking, Over}
use Rattle.dialog_keys.specs.declared.key.TheConstants.{WM_COMMAND}
use Rattle.dialog_keys.specs.Traces.{beginning, command_call}
use Rattle.dialog_keys.proofs.TraceLaws.{carry, step_of, begins_leads, commands_leads, same_send, passes_leads}
use Rattle.dialog_keys.proofs.steps.begins.Goals as goal

pub returns-in-Moves-clause-follows : goal.returns-in-Moves-clause-follows
returns-in-Moves-clause-follows c s n =
    let walk = c.new.result in
    carry s n (beginning c.args.key) (step_of (Walking walk) (Make (ChildAfter walk.dialog walk.child))) c.asks_child.result c.asks_child.ensures
    (begins_leads s n c.args.key c.in-Moves.forwards walk (sym c.errand.ensures ∙ c.in-Moves.is) c.new.ensures)

pub returns-in-Commands-clause-follows : goal.returns-in-Commands-clause-follows
returns-in-Commands-clause-follows c s n =
    let k = c.args.key in
    let id = c.in-Commands.id in
    let call = Send c.from.result WM_COMMAND id c.from-in-Commands.result in
    let same : call ≡ command_call k id = ap (λ d. Send d WM_COMMAND id c.from-in-Commands.result) c.from.ensures ∙ ap (Send k.dialog.0 WM_COMMAND id) c.from-in-Commands.ensures in
    let ps = made call in
    commands_leads s n k id start _ _ (sym c.errand.ensures ∙ c.in-Commands.is)
    (same_send s n (command_call k id) call start _ _ same (c.sends.ensures.follows s n ps (Going start) (c.next-next.ensures.follows s n ps ps (Going start) (Going start) (c.of-send.ensures.stands start) started)))

pub returns-in-Nothing-clause-follows : goal.returns-in-Nothing-clause-follows
returns-in-Nothing-clause-follows c s n =
    carry s n (beginning c.args.key) (step_of Over (Done 0 0)) c.over.result c.over.ensures (passes_leads s n c.args.key (sym c.errand.ensures ∙ c.in-Nothing.is))
